-- What the four calls of demand 3 answer and leave, and what is claimed of them (document 01, "Unfolding").
use Rattle.std.specs.Prelude.{◌≡◌, List, ℕ, ◌*◌, ◌≤◌, take}
use Rattle.std.proofs.Math.ListN.{length}
use Rattle.terms.specs.Tree.{preorder}
use Rattle.terms.specs.Sheet.{alphabet_of, automaton_of, sheet_tree, sheet_mask}
use Rattle.terms.specs.Check.{sheet_refusal}
use Rattle.terms.specs.FormBytes.{rule_count}
use Rattle.terms.specs.Count.{size_of}
use Rattle.terms.specs.Answer.{Answer, refused, answered, answer, answer_of}
use Rattle.terms.specs.Calls.{lent_after, form_asked, counts_per_rule, evaluation_refusal, relations_of, form_mask, most_walked, walk_refusal, walk_mask, walk_masks}
use Rattle.terms.specs.Demand.{FormOfSheet, MaskOfRuns}
use Rattle.making.specs.Making.{Makes}
use Rattle.unfolding.specs.Unfolding.{Unfolded}
use Rattle.certificate.specs.declared.certify.Answers.{Answers}

-- the slices that are lent besides the form's: the relations, the counts, the tree's bytes and the masks (01 Unfolding)
pub record Slices : Type 0 where
  pub relations : List ℕ
  pub counts : List ℕ
  pub tree : List ℕ
  pub masks : List ℕ

abbrev pub slices : List ℕ → List ℕ → List ℕ → List ℕ → Slices
slices relations counts tree masks = record { relations = relations; counts = counts; tree = tree; masks = masks }

-- What each call answers and leaves, whatever the sheet and the slices.

-- the walk over the bytes that unfolding wrote, or unfolding's refusal handed on (01 Unfolding)
abbrev pub Walked : List ℕ → List ℕ → Answer ℕ → List ℕ → Answer ℕ → List ℕ → List ℕ → Type 0
Walked alphabet automaton (refused n) tree r exit entry = (r ≡ refused n) × (exit ≡ entry)
Walked alphabet automaton (answered n) tree r exit entry =
    (r ≡ answer (walk_refusal alphabet automaton (take n tree) (length entry)) (walk_mask alphabet automaton (take n tree)))
    × (exit ≡ lent_after (walk_refusal alphabet automaton (take n tree) (length entry)) (walk_masks alphabet automaton (take n tree)) entry)

-- evaluation and unfolding of a form, and the walk over what was unfolded (01 Unfolding)
pub record Ran (alphabet automaton form : List ℕ) (answers : Answers) (lent left : Slices) : Type 0 where
  pub made : answer_of answers.made ≡ answered (length form)
  pub evaluated : answer_of answers.evaluated
      ≡ answer (evaluation_refusal alphabet automaton form (length lent.relations)) (form_mask alphabet automaton form)
  pub relations : left.relations
      ≡ lent_after (evaluation_refusal alphabet automaton form (length lent.relations)) (relations_of alphabet automaton form) lent.relations
  pub unfolded : Unfolded alphabet form (answer_of answers.unfolded) left.counts lent.counts left.tree lent.tree
  pub walked : Walked alphabet automaton (answer_of answers.unfolded) left.tree (answer_of answers.walked) left.masks lent.masks

-- a refusal of form making handed on: the other calls are not made, and their slices are as they were (01 Refusals)
pub record HandedOn (n : ℕ) (answers : Answers) (lent left : Slices) : Type 0 where
  pub evaluated : answer_of answers.evaluated ≡ refused n
  pub relations : left.relations ≡ lent.relations
  pub unfolded : answer_of answers.unfolded ≡ refused n
  pub counts : left.counts ≡ lent.counts
  pub tree : left.tree ≡ lent.tree
  pub walked : answer_of answers.walked ≡ refused n
  pub masks : left.masks ≡ lent.masks

-- what follows form making: the other calls get the sheet's alphabet and automaton, and exactly the bytes that were written (01 Unfolding)
abbrev pub Follows : List ℕ → Answer ℕ → List ℕ → Answers → Slices → Slices → Type 0
Follows sheet (refused n) form answers lent left = HandedOn n answers lent left
Follows sheet (answered n) form answers lent left = Ran (alphabet_of sheet) (automaton_of sheet) (take n form) answers lent left

-- the four calls (01 Unfolding)
pub record CallsMade (sheet : List ℕ) (answers : Answers) (form : List ℕ) (lent : Slices) (form' : List ℕ) (left : Slices) : Type 0 where
  pub makes : Makes sheet (answer_of answers.made) form' form
  pub followed : Follows sheet (answer_of answers.made) form' answers lent left

-- What is claimed of them: demand 3.

-- the four calls on a sheet that is not refused, with 5 + T + 12 · sum form bytes lent (01 Unfolding, 02 R-5, R-6)
pub record Certificate (sheet : List ℕ) (answers : Answers) (lent : Slices) (form' : List ℕ) (left : Slices) : Type 0 where
  pub written : ℕ
  -- form making is not refused; the form is valid, derives exactly the sheet's tree, and has no more rules than the sum, and so at most 16 for each right-side node
  pub made : answer_of answers.made ≡ answered written
  pub formed : FormOfSheet sheet (take written form')
  -- with R numbers lent, evaluation is not refused; the mask has bit q exactly where a run on the sheet's tree ends in q at the root
  pub evaluated : rule_count (take written form') ≤ length lent.relations → answer_of answers.evaluated ≡ answered (sheet_mask sheet)
  pub runs : MaskOfRuns sheet (sheet_mask sheet)
  -- with 2 · R numbers and as many bytes as the tree has nodes lent, unfolding writes exactly that tree
  pub unfolded : counts_per_rule * rule_count (take written form') ≤ length lent.counts → size_of (sheet_tree sheet) ≤ length lent.tree
      → (answer_of answers.unfolded ≡ answered (size_of (sheet_tree sheet))) × (take (size_of (sheet_tree sheet)) left.tree ≡ preorder (sheet_tree sheet))
  -- and where it has at most 4,096 nodes, with as many bytes lent once more, the walk over what was written answers the same mask
  pub walked : counts_per_rule * rule_count (take written form') ≤ length lent.counts → size_of (sheet_tree sheet) ≤ length lent.tree
      → size_of (sheet_tree sheet) ≤ most_walked → size_of (sheet_tree sheet) ≤ length lent.masks → answer_of answers.walked ≡ answered (sheet_mask sheet)

-- demand 3, for every byte string that refusals 1 to 16 let through, with 5 + T + 12 · sum form bytes lent, whatever the slices held before (01 Unfolding, 02 R-5, R-6)
abbrev pub Certified : List ℕ → Answers → List ℕ → Slices → List ℕ → Slices → Type 0
Certified sheet answers form lent form' left = sheet_refusal sheet ≡ 0 → form_asked sheet ≤ length form → Certificate sheet answers lent form' left
