-- `forms::check::check_form` meets its contract: 18 is the answer where the head or the table is not in order, else 28 where the alphabets differ.
use mathlib.Core.Path.{◌≡◌}
use mathlib.Core.Bool.{Bool, true, not}
use mathlib.Core.List.{List}
use Prim.Native.Nat.{ℕ}
use lib.Dec.{eqb}
use lib.Pointwise.{pointwise}
use Rattle.terms.specs.FormBytes.{head_alphabet, head_fits, start_and_rules_fit, same_alphabet, valid_form, form_refusal}
use Rattle.slot_checks.proofs.Laws.{failed, passed}
use Rattle.forms.proofs.Alike.{alike}
use Rattle.forms.proofs.check.check_form.Goals as goal

-- the head, the start and the rules are in order
valid : (form carried : List ℕ) → head_fits form ≡ true → carried ≡ head_alphabet form → start_and_rules_fit carried form ≡ true → valid_form form ≡ true
unfolding valid_form
valid form carried headed head rules = rw (headed, ← head, rules)

differs : (given carried : List ℕ) (b : Bool) → b ≡ not (pointwise eqb given carried) → not (same_alphabet given carried) ≡ b
differs given carried b e = rw (e, alike given carried)

pub returns-then-not-head_fits : goal.returns-then-not-head_fits
unfolding form_refusal valid_form
returns-then-not-head_fits c = rw (failed c.head_fits.ensures c.if-not-head_fits.true)

pub returns-then-not-start_and_rules_fit : goal.returns-then-not-start_and_rules_fit
unfolding form_refusal valid_form
returns-then-not-start_and_rules_fit c =
    let headed : head_fits c.args.form.now ≡ true = passed c.head_fits.ensures c.if-not-head_fits.false in
    rw (headed, ← c.alphabet_of-carried.ensures, failed c.start_and_rules_fit.ensures c.if-not-start_and_rules_fit.true)

pub returns-then-ne : goal.returns-then-ne
unfolding form_refusal
returns-then-ne c =
    let v = valid _ _ (passed c.head_fits.ensures c.if-not-head_fits.false) c.alphabet_of-carried.ensures (passed c.start_and_rules_fit.ensures c.if-not-start_and_rules_fit.false) in
    rw (v, ← c.alphabet_of-carried.ensures, differs _ _ _ c.ne.ensures, c.if-ne.true)

pub returns : goal.returns
unfolding form_refusal
returns c =
    let v = valid _ _ (passed c.head_fits.ensures c.if-not-head_fits.false) c.alphabet_of-carried.ensures (passed c.start_and_rules_fit.ensures c.if-not-start_and_rules_fit.false) in
    rw (v, ← c.alphabet_of-carried.ensures, differs _ _ _ c.ne.ensures, c.if-ne.false)
