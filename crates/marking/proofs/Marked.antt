-- What marking a sheet answers and leaves, by what was read of it and by the lengths of the slices.
use mathlib.Core.Path.{◌≡◌, refl}
use mathlib.Core.List.{List}
use Prim.Native.Nat.{ℕ, zero, suc, ◌≤◌}
use native.Mathlib.Omega.{arith}
use lib.ListN.{length, take}
use Rattle.terms.specs.Tree.{preorder}
use Rattle.terms.specs.Sheet.{alphabet_of, rules_of, automaton_of, finals, Verdict, sheet_tree, sheet_mask, sheet_verdict}
use Rattle.terms.specs.declared.refusals.Refusal.{Refusal}
use Rattle.terms.specs.Check.{sheet_refusal}
use Rattle.terms.specs.Answer.{number_of}
use Rattle.terms.specs.Calls.{lent_after, rules_asked, sheet_mark, evaluation_refusal, relations_of, form_mask, walk_mask}
use Rattle.terms.specs.Demand.{FormOfSheet, Demand3}
use Rattle.terms.proofs.Refusal.{numbered}
use Rattle.terms.proofs.Demand.{walk_answers, form_meets}
use Rattle.terms.proofs.Sheet.Automaton.{automaton_passed}
use Rattle.terms.proofs.Sheet.Passed.{sheet_passed}
use Rattle.making.specs.Making.{form_of}
use Rattle.making.specs.Private.Read.{FormWritten}
use Rattle.making.proofs.Formed.{form_of_lem, written-first}
use Rattle.marking.specs.Marking.{SlicesLeft}
use Rattle.marking.specs.Private.Verdict.{verdict_on}

-- The slices, by the refusal.

-- a refusal leaves the slices as they were
pub refused_slices : (e : Refusal) (refusal : ℕ) (sheet form relations : List ℕ) → number_of e ≡ refusal → SlicesLeft refusal sheet form form relations relations
refused_slices e zero sheet form relations h = absurd (numbered e h)
refused_slices e (suc n) sheet form relations h = record { formed = refl; evaluated = refl; made = λ z. absurd (omega arith) }

-- where nothing is refused they are as form making and evaluation leave them
pub marked_slices : (refusal : ℕ) {sheet form form' relations relations' : List ℕ} → 0 ≡ refusal → SlicesLeft 0 sheet form' form relations' relations
    → SlicesLeft refusal sheet form' form relations' relations
marked_slices refusal e l = rw (← e) l

-- A sheet that was read.

module _ (s : List ℕ) {alphabet automaton : List ℕ} (passes : sheet_refusal s ≡ 0) (a : alphabet ≡ alphabet_of s) (b : automaton ≡ automaton_of s) where
  pub automaton_long : 2 ≤ length automaton
  automaton_long = rw b (omega (arith, (automaton_passed (alphabet_of s) (automaton_of s) (sheet_passed s passes).automaton).long))

  -- what the walk over the sheet's tree answers is the sheet's mask
  walked : walk_mask (alphabet_of s) (automaton_of s) (preorder (sheet_tree s)) ≡ sheet_mask s
  unfolding sheet_mask
  walked = walk_answers s passes

  -- and its form is written
  module _ {n : ℕ} {exit entry : List ℕ} (w : FormWritten (alphabet_of s) (rules_of s) (form_of s) n exit entry) where
    formed : FormOfSheet s (form_of s)
    formed = form_of_lem s w.holds

    demand : Demand3 s (form_of s)
    demand = form_meets s passes (form_of s) formed

    -- the first bytes of the slice are the form
    first : take n exit ≡ form_of s
    first = written-first (form_of s) entry w.long w.bytes

    pub evaluable : {asked : ℕ} (numbers : ℕ) → asked ≡ rules_asked s → asked ≤ numbers → evaluation_refusal alphabet automaton (take n exit) numbers ≡ 0
    evaluable numbers k h = rw (a, b, first) (demand.evaluated numbers (omega (arith, formed.few)))

    -- the answer
    pub verdict_is : {v : Verdict} {m : ℕ} → m ≡ form_mask alphabet automaton (take n exit) → v ≡ verdict_on m (finals automaton) → (v, m) ≡ sheet_mark s
    unfolding sheet_verdict
    verdict_is m e = rw (e, m, a, b, first, ← demand.same, walked)

    -- and the slices
    pub slices-left : (relations : List ℕ) {relations' : List ℕ} → relations' ≡ lent_after 0 (relations_of alphabet automaton (take n exit)) relations
        → SlicesLeft 0 s exit entry relations' relations
    slices-left relations e = record {
      formed = w.bytes;
      evaluated = rw (a, b, first) at e;
      made = λ z. record { holds = w.holds; within = omega (arith, w.long, w.within) };
    }
