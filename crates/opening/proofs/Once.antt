-- A form that is opened once and then read by rule number (document 01, "One-hole form"): for every number the answer is that of a call which checks and reads the form anew.
use mathlib.Core.Path.{◌≡◌, refl, sym, ◌∙◌}
use mathlib.Core.Bool.{Bool, true, false}
use mathlib.Core.List.{List}
use Prim.Native.Nat.{ℕ, zero, suc, ◌+◌, ◌<◌}
use native.Mathlib.Omega.{arith}
use lib.Dec.{leb, ltb}
use lib.ListN.{length}
use denote.Ref.{Bor}
use borrow.Author.Tests.{leb-false, le-ltb}
use Rattle.terms.specs.Refusal.{◌when◌, or_else}
use Rattle.terms.specs.FormBytes.{form_length, rule_count, terminal_count}
use Rattle.terms.specs.Calls.{opening_refusal, reading_refusal}
use Rattle.opening.specs.Reading.{rule_reading}
use Rattle.forms.proofs.Rules.{passed, opening_passed}
use Rattle.opening.specs.declared.OpenForm.{OpenForm}
use Rattle.opening.specs.Opening.{opened_rules, opened_reading, reading_of}
use Rattle.std.specs.Prelude.{Result, Ok, Err, IfOk}
use Rattle.terms.specs.declared.refusals.Refusal.{Refusal}
use Rattle.terms.specs.Answer.{number_of, refusal_of}
use Rattle.terms.proofs.InTurn.{stopped, answers_refusal}

-- a second row of 21 says nothing where it holds only if the first does
one_row : (b c : Bool) → (b ≡ false → c ≡ false) → or_else (21 when b) (or_else (21 when c) 0) ≡ or_else (21 when b) 0
one_row true c h = refl
one_row false c h = rw (h refl)

module _ (alphabet form : List ℕ) (i : ℕ) where
  -- where the form opens, a rule of a number below R stands whole in its bytes
  stands : opening_refusal alphabet form ≡ 0 → leb (rule_count form) i ≡ false → ltb (length form) (form_length (terminal_count form) (i + 1)) ≡ false
  stands e b =
      let (a, f) = opening_passed alphabet form e in
      let low : i < rule_count form = leb-false (rule_count form) i b in
      le-ltb (length form) (form_length (terminal_count form) (i + 1)) (omega (arith, (passed alphabet form a f).long))

  by_refusal : (refusal : ℕ) → opening_refusal alphabet form ≡ refusal → opened_reading form (opened_rules form refusal) refusal i ≡ rule_reading alphabet form i
  unfolding rule_reading reading_refusal
  by_refusal zero e = rw (e, one_row (leb (rule_count form) i) _ (stands e))
  by_refusal (suc n) e = rw e

  -- opening a form and then reading by number answers what reading it at once does
  pub open_then_read : (let refusal = opening_refusal alphabet form in opened_reading form (opened_rules form refusal) refusal i ≡ rule_reading alphabet form i)
  open_then_read = by_refusal (opening_refusal alphabet form) refl

-- what `open` promises of its answer
abbrev pub Opened : List ℕ → Bor (List ℕ) → Result OpenForm Refusal → Type 0
Opened alphabet form opened =
    (refusal_of opened ≡ opening_refusal alphabet form.now)
    × IfOk opened (λ o. (o.form ≡ form) × (o.rules ≡ rule_count form.now))

-- a form opened once is read as often as one likes: for every number
pub opened-once : (alphabet : List ℕ) (form : Bor (List ℕ)) (opened : Result OpenForm Refusal) → Opened alphabet form opened
    → (i : ℕ) → reading_of opened i ≡ rule_reading alphabet form.now i
opened-once alphabet form (Ok o) (none, (bytes, rules)) i = rw (bytes, rules) (by_refusal alphabet form.now i 0 (sym none))
opened-once alphabet form (Err refusal) (given, found) i =
    sym (answers_refusal refusal _ _ (sym (stopped refusal (number_of refusal) _ refl))) ∙ by_refusal alphabet form.now i (number_of refusal) (sym given)
