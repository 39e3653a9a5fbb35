-- What writing a sheet, making the form of what was written and unfolding it answer and leave (document 01, demand 2, and document 02, R-2).
use Rattle.std.specs.Prelude.{◌≡◌, List, ℕ, ◌*◌, ◌≤◌, length, take, Result, Ok, Err, IsErrAnd}
use Rattle.terms.specs.declared.refusals.Refusal.{Refusal}
use Rattle.terms.specs.FormBytes.{rule_count}
use Rattle.terms.specs.Answer.{Answer, refused, answered, answer, answer_of}
use Rattle.terms.specs.Calls.{lent_after, form_asked, counts_per_rule}
use Rattle.making.specs.Making.{Makes}
use Rattle.unfolding.specs.Unfolding.{Unfolded}
use Rattle.restoring.specs.declared.written.Restoring.{Restoring}

-- What each call answers and leaves, whatever was given.

-- form making on exactly the bytes that were written as a sheet, or the refusal of that handed on (01 One-hole form)
abbrev pub MadeFrom : Answer ℕ → List ℕ → Answer ℕ → List ℕ → List ℕ → Type 0
MadeFrom (refused n) sheet r exit entry = (r ≡ refused n) × (exit ≡ entry)
MadeFrom (answered n) sheet r exit entry = Makes (take n sheet) r exit entry

-- unfolding of exactly the bytes that form making wrote, or form making's refusal handed on (01 Unfolding)
abbrev pub UnfoldedFrom : List ℕ → Answer ℕ → List ℕ → Answer ℕ → List ℕ → List ℕ → List ℕ → List ℕ → Type 0
UnfoldedFrom alphabet (refused n) form r counts' counts tree' tree = (r ≡ refused n) × (counts' ≡ counts) × (tree' ≡ tree)
UnfoldedFrom alphabet (answered n) form r counts' counts tree' tree = Unfolded alphabet (take n form) r counts' counts tree' tree

-- The same where the caller has errors of its own: which error is made of which refusal is given.

-- what a call answered, with the error that is made of its refusal (01 Refusals)
abbrev pub HandedOn : {E : Type 0} → (Refusal → E → Type 0) → Result ℕ Refusal → Result ℕ E → Type 0
HandedOn made (Ok n) r = r ≡ Ok n
HandedOn made (Err refusal) r = IsErrAnd r (made refusal)

-- form making on exactly the bytes that were written as a sheet, or the error of that handed on (01 One-hole form)
abbrev pub MadeBehind : {E : Type 0} → (Refusal → E → Type 0) → Result ℕ E → List ℕ → Result ℕ E → List ℕ → List ℕ → Type 0
MadeBehind made (Err error) sheet r exit entry = (r ≡ Err error) × (exit ≡ entry)
MadeBehind made (Ok n) sheet r exit entry = (answer : Result ℕ Refusal) × HandedOn made answer r × Makes (take n sheet) (answer_of answer) exit entry

-- unfolding of exactly the bytes that form making wrote, or form making's error handed on (01 Unfolding)
abbrev pub UnfoldedBehind : {E : Type 0} → (Refusal → E → Type 0) → List ℕ → Result ℕ E → List ℕ → Result ℕ E → List ℕ → List ℕ → List ℕ → List ℕ → Type 0
UnfoldedBehind made alphabet (Err error) form r counts' counts tree' tree = (r ≡ Err error) × (counts' ≡ counts) × (tree' ≡ tree)
UnfoldedBehind made alphabet (Ok n) form r counts' counts tree' tree =
    (answer : Result ℕ Refusal) × HandedOn made answer r × Unfolded alphabet (take n form) (answer_of answer) counts' counts tree' tree

-- the lent slices: the sheet's bytes, the form's, the counts and the bytes of the tree that is written last (01 Size, label, wrap)
pub record RestoringSlices : Type 0 where
  pub sheet : List ℕ
  pub form : List ℕ
  pub counts : List ℕ
  pub tree : List ℕ

abbrev pub restoring_slices : List ℕ → List ℕ → List ℕ → List ℕ → RestoringSlices
restoring_slices sheet form counts tree = record { sheet = sheet; form = form; counts = counts; tree = tree }

-- the three calls, where n is what writing the sheet is refused by (01 Size, label, wrap; 02 R-2)
pub record RestoringCalls (alphabet : List ℕ) (n : ℕ) (sheet : List ℕ) (r : Restoring Refusal) (lent left : RestoringSlices) : Type 0 where
  pub answers : answer_of r.written ≡ answer n (length sheet)
  pub writes : left.sheet ≡ lent_after n sheet lent.sheet
  pub makes : MadeFrom (answer_of r.written) left.sheet (answer_of r.made) left.form lent.form
  pub unfolds : UnfoldedFrom alphabet (answer_of r.made) left.form (answer_of r.unfolded) left.counts lent.counts left.tree lent.tree

-- What is claimed of them.

-- the form is made, of so many bytes, and what is written last is the tree, with 2 · R numbers and as many bytes as the tree has nodes lent (01 demand 2)
pub record TreeBack (tree : List ℕ) (r : Restoring Refusal) (lent left : RestoringSlices) : Type 0 where
  pub bytes : ℕ
  pub made : answer_of r.made ≡ answered bytes
  pub back : counts_per_rule * rule_count (take bytes left.form) ≤ length lent.counts → length tree ≤ length lent.tree
      → (answer_of r.unfolded ≡ answered (length tree)) × (take (length tree) left.tree ≡ tree)

-- the last sentence of demand 2, and of R-2, for every sheet that is not refused where it is written, with 5 + T + 12 · sum form bytes lent, whatever the slices held
-- before (01 demand 2; 02 R-2, R-6)
abbrev pub Restored : ℕ → List ℕ → List ℕ → Restoring Refusal → RestoringSlices → RestoringSlices → Type 0
Restored n sheet tree r lent left = n ≡ 0 → form_asked sheet ≤ length lent.form → TreeBack tree r lent left
