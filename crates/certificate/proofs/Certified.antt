-- Demand 3 follows from what the four calls answer and leave.
use mathlib.Core.Path.{◌≡◌, refl, subst}
use mathlib.Core.List.{List}
use Prim.Native.Nat.{ℕ, ◌*◌, ◌≤◌}
use lib.ListN.{length, take}
use Rattle.terms.specs.Tree.{Tree, preorder}
use Rattle.terms.specs.Sheet.{alphabet_of, automaton_of, sheet_tree, sheet_mask}
use Rattle.terms.specs.Check.{sheet_refusal}
use Rattle.terms.specs.FormBytes.{rule_count}
use Rattle.terms.specs.Count.{size_of}
use Rattle.terms.specs.Answer.{Answer, refused, answered, answer_of}
use Rattle.terms.specs.Calls.{form_asked, counts_per_rule, form_mask, most_walked}
use Rattle.terms.specs.Demand.{FormOfSheet, Demand3}
use Rattle.terms.proofs.Demand.{form_meets}
use Rattle.terms.proofs.Sheet.Asked.{just_enough}
use Rattle.making.specs.Making.{Makes}
use Rattle.making.proofs.Formed.{wrote, none-refused}
use Rattle.certificate.specs.Certify.{Slices, Walked, Ran, Follows, CallsMade, Certificate}
use Rattle.certificate.specs.declared.certify.Answers.{Answers}
use Rattle.unfolding.proofs.Unfolded.{unfolds, tree-first}

module _ (sheet : List ℕ) (answers : Answers) (form : List ℕ) (lent : Slices) (form' : List ℕ) (left : Slices) (passes : sheet_refusal sheet ≡ 0) (room : form_asked sheet ≤ length form) where
  abbrev alphabet : List ℕ
  alphabet = alphabet_of sheet

  abbrev automaton : List ℕ
  automaton = automaton_of sheet

  abbrev tree : Tree
  tree = sheet_tree sheet

  module _ (n : ℕ) (made : answer_of answers.made ≡ answered n) (formed : FormOfSheet sheet (take n form')) (ran : Ran alphabet automaton (take n form') answers lent left) where
    abbrev written : List ℕ
    written = take n form'

    demand : Demand3 sheet written
    demand = form_meets sheet passes written formed

    mask_is : form_mask alphabet automaton written ≡ sheet_mask sheet
    unfolding form_mask sheet_mask
    mask_is = rw formed.tree refl

    module _ (counts : counts_per_rule * rule_count written ≤ length lent.counts) (long : size_of tree ≤ length lent.tree) where
      nodes-written : answer_of answers.unfolded ≡ answered (size_of tree)
      nodes-written = unfolds ran.unfolded tree formed.tree (demand.unfolded _ _ counts long)

      tree-written : take (size_of tree) left.tree ≡ preorder tree
      tree-written = tree-first ran.unfolded tree formed.tree (demand.unfolded _ _ counts long)

      same-mask : size_of tree ≤ most_walked → size_of tree ≤ length lent.masks → answer_of answers.walked ≡ answered (sheet_mask sheet)
      same-mask small masks =
          let w = subst (λ (u : Answer ℕ). Walked alphabet automaton u left.tree (answer_of answers.walked) left.masks lent.masks) nodes-written ran.walked in
          rw (tree-written, demand.walked small _ masks, demand.same, mask_is) at w.0

    certificate : Certificate sheet answers lent form' left
    certificate = record {
      written = n;
      made = made;
      formed = formed;
      evaluated = λ h. rw (demand.evaluated _ h, mask_is) at ran.evaluated;
      runs = rw mask_is at demand.mask;
      unfolded = λ h k. (nodes-written h k, tree-written h k);
      walked = same-mask;
    }

  by_answer : (m : Answer ℕ) → answer_of answers.made ≡ m → Makes sheet m form' form → Follows sheet m form' answers lent left → Certificate sheet answers lent form' left
  by_answer (refused n) e k f = absurd (none-refused k refl ((just_enough sheet passes).makes (length form) room))
  by_answer (answered n) e k f = certificate n e (wrote k refl).formed f

  pub calls_certify : CallsMade sheet answers form lent form' left → Certificate sheet answers lent form' left
  calls_certify c = by_answer (answer_of answers.made) refl c.makes c.followed
