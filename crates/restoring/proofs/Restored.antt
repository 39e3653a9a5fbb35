-- A sheet that was written, made a form and unfolded gives back its tree.
use mathlib.Core.Path.{◌≡◌, refl, ap, subst, ◌∙◌}
use mathlib.Core.List.{List}
use Prim.Native.Nat.{ℕ, ◌*◌, ◌≤◌}
use native.Mathlib.Omega.{arith}
use lib.ListN.{length, take}
use lib.Seq.{take-append_seam}
use Rattle.terms.specs.Tree.{preorder}
use Rattle.terms.specs.Sheet.{alphabet_of, sheet_tree}
use Rattle.terms.specs.Check.{sheet_refusal}
use Rattle.terms.specs.FormBytes.{rule_count, form_tree}
use Rattle.terms.specs.declared.refusals.Refusal.{Refusal}
use Rattle.terms.specs.Answer.{Answer, refused, answered, answer_of}
use Rattle.terms.specs.Calls.{form_asked, counts_per_rule, unfolding_refusal}
use Rattle.terms.specs.Demand.{FormOfSheet, Demand3}
use Rattle.terms.proofs.Demand.{form_meets}
use Rattle.terms.proofs.Sheet.Asked.{just_enough}
use Rattle.making.specs.Making.{Makes}
use Rattle.making.proofs.Formed.{wrote, none-refused}
use Rattle.unfolding.specs.Unfolding.{Unfolded}
use Rattle.restoring.specs.Restore.{MadeFrom, UnfoldedFrom, RestoringSlices, RestoringCalls, Restored, TreeBack}
use Rattle.restoring.specs.declared.written.Restoring.{Restoring}
use Rattle.unfolding.proofs.Unfolded.{unfolds, tree-first}

-- the sheet is not refused, and its alphabet and its tree are these
pub record SheetOf (sheet alphabet tree : List ℕ) : Type 0 where
  pub passes : sheet_refusal sheet ≡ 0
  pub alphabet-given : alphabet_of sheet ≡ alphabet
  pub tree-given : preorder (sheet_tree sheet) ≡ tree

module _ (alphabet sheet tree : List ℕ) (is : SheetOf sheet alphabet tree) (r : Restoring Refusal) (lent left : RestoringSlices)
    (room : form_asked sheet ≤ length lent.form) where
  size : length (preorder (sheet_tree sheet)) ≡ length tree
  size = ap length is.tree-given

  module _ (n : ℕ) (formed : FormOfSheet sheet (take n left.form))
      (u : Unfolded alphabet (take n left.form) (answer_of r.unfolded) left.counts lent.counts left.tree lent.tree) where
    abbrev form : List ℕ
    form = take n left.form

    demand : Demand3 sheet form
    demand = form_meets sheet is.passes form formed

    derives : form_tree alphabet form ≡ sheet_tree sheet
    derives = rw is.alphabet-given at formed.tree

    module _ (counts : counts_per_rule * rule_count form ≤ length lent.counts) (long : length tree ≤ length lent.tree) where
      unfolding_passes : unfolding_refusal alphabet form (length lent.counts) (length lent.tree) ≡ 0
      unfolding_passes = rw is.alphabet-given at (demand.unfolded (length lent.counts) (length lent.tree) counts (omega (arith, size)))

      nodes-written : answer_of r.unfolded ≡ answered (length tree)
      nodes-written = unfolds u (sheet_tree sheet) derives unfolding_passes ∙ ap answered size

      tree-written : take (length tree) left.tree ≡ tree
      tree-written = rw (← size) (tree-first u (sheet_tree sheet) derives unfolding_passes ∙ is.tree-given)

  by_answer : (m : Answer ℕ) → answer_of r.made ≡ m → Makes sheet m left.form lent.form
      → UnfoldedFrom alphabet m left.form (answer_of r.unfolded) left.counts lent.counts left.tree lent.tree → TreeBack tree r lent left
  by_answer (refused n) e k u = absurd (none-refused k refl ((just_enough sheet is.passes).makes (length lent.form) room))
  by_answer (answered n) e k u =
      let formed = (wrote k refl).formed in
      record { bytes = n; made = e; back = λ h k. (nodes-written n formed u h k, tree-written n formed u h k) }

  by_calls : RestoringCalls alphabet 0 sheet r lent left → TreeBack tree r lent left
  by_calls c =
      let s : take (length sheet) left.sheet ≡ sheet = rw c.writes (take-append_seam sheet _) in
      let m = rw s at (subst (λ (x : Answer ℕ). MadeFrom x left.sheet (answer_of r.made) left.form lent.form) c.answers c.makes) in
      by_answer (answer_of r.made) refl m c.unfolds

-- where n is what writing the sheet is refused by
pub calls_restore : (alphabet : List ℕ) (n : ℕ) (sheet tree : List ℕ) → (n ≡ 0 → SheetOf sheet alphabet tree) → (r : Restoring Refusal) (lent left : RestoringSlices)
    → RestoringCalls alphabet n sheet r lent left → Restored n sheet tree r lent left
calls_restore alphabet n sheet tree is r lent left c e room =
    by_calls alphabet sheet tree (is e) r lent left room (subst (λ (k : ℕ). RestoringCalls alphabet k sheet r lent left) e c)
