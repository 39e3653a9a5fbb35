-- What adding a transition that is let through answers and leaves, by the parts of the form.
use mathlib.Core.Path.{◌≡◌, refl, sym}
use mathlib.Core.List.{List, ◌++◌}
use Prim.Native.Nat.{ℕ, ◌+◌, ◌%◌}
use native.Mathlib.Omega.{arith}
use lib.ListN.{length, take, drop}
use Rattle.terms.specs.Answer.{answered}
use Rattle.terms.specs.FormBytes.{start_of, table_of}
use Rattle.terms.specs.Calls.{lent_after}
use Rattle.forms.proofs.Rules.{rules_in_table}
use Rattle.entries.specs.Entries.{entry_in}
use Rattle.evaluation.proofs.Passed.{evaluation_passed}
use Rattle.evaluation.proofs.Entries.{right_by_runs}
use Rattle.adding_terms.specs.Adding.{longer, new_terminal, adding_refusal, added_relations, added_mask}
use Rattle.adding_terms.proofs.Carried.{AddingPassed, adding_passed, redone_right, carries_over}
use Rattle.redoing.specs.Redoing.{redone_in}
use Rattle.adding.specs.Added.{RightlyAdded}
use Rattle.adding.proofs.Lengthened.{front-is}

module _ (alphabet form automaton new held : List ℕ) (passed : adding_refusal alphabet form automaton new (length held) ≡ 0) where
  p : AddingPassed alphabet form automaton new (length held)
  p = adding_passed alphabet form automaton new (length held) passed

  -- the first bytes of the longest array are the longer automaton
  pub front : (array exit : List ℕ) → exit ≡ longer automaton new ++ drop (length automaton + length new) array → take (length automaton + 6) exit ≡ longer automaton new
  front array exit put = front-is automaton new array (length automaton + 6) (omega (arith, p.addition.six)) exit put

  abbrev written : List ℕ
  written = added_relations alphabet form automaton new held

  -- the entries of the form's rules are those of its table
  pub form-redone : (table bytes : List ℕ) (f : ℕ) → table ≡ table_of form → bytes ≡ longer automaton new → f ≡ new_terminal new → redone_in alphabet bytes table f held ≡ written
  unfolding added_relations
  form-redone table bytes f t b e = rw (t, b, e, rules_in_table alphabet form p.alphabet_passes p.form_passes)

  module _ (left : List ℕ) (e : left ≡ lent_after 0 written held) where
    -- the low byte of the start's entry is the answer
    pub start-mask : (start : ℕ) → start ≡ start_of form → entry_in left start % 256 ≡ added_mask alphabet form automaton new held
    start-mask start is = rw (is, e) (sym (redone_right alphabet form automaton new (length held) passed held refl).answer)

    pub rightly_added : (mask : ℕ) → mask ≡ added_mask alphabet form automaton new held → RightlyAdded alphabet form automaton new held (answered mask) left
    rightly_added mask m = rw (m, e) (
      redone_right alphabet form automaton new (length held) passed held refl,
      λ was. let c = carries_over alphabet form automaton new (length held) passed held was refl in
          (c, right_by_runs (evaluation_passed alphabet (longer automaton new) form (length held) c.fresh) held _ c.relations _ c.answer),
    )
