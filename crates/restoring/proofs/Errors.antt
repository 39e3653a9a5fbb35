-- The calls behind the one that wrote the sheet, where errors have numbers: what the definitions over answers say of them, with the refusals as errors and with their numbers.
use Rattle.std.proofs.Common.{◌≡◌, ℕ, List, refl, ap, sym, subst}
use Rattle.std.specs.Prelude.{Result, Ok, Err, take}
use Rattle.terms.specs.declared.refusals.Refusal.{Refusal}
use Rattle.terms.specs.Answer.{Answer, refused, answered, number_of, answer_of}
use Rattle.making.specs.Making.{Makes}
use Rattle.unfolding.specs.Unfolding.{Unfolded}
use Rattle.restoring.specs.Restore.{HandedOn, MadeFrom, MadeBehind, UnfoldedFrom, UnfoldedBehind}

-- what a call answers: its value, or the number of its error
abbrev pub answer_by : {E : Type 0} → (E → ℕ) → Result ℕ E → Answer ℕ
answer_by number (Ok value) = answered value
answer_by number (Err error) = refused (number error)

-- a number for each error, which for one that is made of a refusal is that refusal's
abbrev pub Numbers : {E : Type 0} → (Refusal → E → Type 0) → (E → ℕ) → Type 0
Numbers {E} made number = (refusal : Refusal) (error : E) → made refusal error → number error ≡ number_of refusal

module _ {E : Type 0} (made : Refusal → E → Type 0) (number : E → ℕ) (numbers : Numbers made number) where
  handed-answer : (answer : Result ℕ Refusal) (r : Result ℕ E) → HandedOn made answer r → answer_of answer ≡ answer_by number r
  handed-answer (Ok n) r handed = ap (answer_by number) (sym handed)
  handed-answer (Err refusal) (Ok n) handed = absurd handed
  handed-answer (Err refusal) (Err error) handed = ap refused (sym (numbers refusal error handed))

  pub made-by-number : (written : Result ℕ E) (sheet : List ℕ) (r : Result ℕ E) (exit entry : List ℕ)
      → MadeBehind made written sheet r exit entry → MadeFrom (answer_by number written) sheet (answer_by number r) exit entry
  made-by-number (Err error) sheet r exit entry (handed, kept) = (ap (answer_by number) handed, kept)
  made-by-number (Ok n) sheet r exit entry (answer, handed, makes) =
      subst (λ (x : Answer ℕ). Makes (take n sheet) x exit entry) (handed-answer answer r handed) makes

  pub unfolded-by-number : (alphabet : List ℕ) (m : Result ℕ E) (form : List ℕ) (r : Result ℕ E) (counts' counts tree' tree : List ℕ)
      → UnfoldedBehind made alphabet m form r counts' counts tree' tree
      → UnfoldedFrom alphabet (answer_by number m) form (answer_by number r) counts' counts tree' tree
  unfolded-by-number alphabet (Err error) form r counts' counts tree' tree (handed, counts-kept, tree-kept) = (ap (answer_by number) handed, counts-kept, tree-kept)
  unfolded-by-number alphabet (Ok n) form r counts' counts tree' tree (answer, handed, unfolded) =
      subst (λ (x : Answer ℕ). Unfolded alphabet (take n form) x counts' counts tree' tree) (handed-answer answer r handed) unfolded

-- The errors are numbers, any at all.

pub numbers-numbered : Numbers (λ (reason : Refusal) (n : ℕ). n ≡ number_of reason) (λ n. n)
numbers-numbered reason n same = same

-- The errors are the refusals.

pub refusals-numbered : Numbers (λ (reason refusal : Refusal). refusal ≡ reason) number_of
refusals-numbered reason refusal same = ap number_of same

answers-refusals : (r : Result ℕ Refusal) → answer_by number_of r ≡ answer_of r
answers-refusals (Ok value) = refl
answers-refusals (Err refusal) = refl

pub made-refusals : (written : Result ℕ Refusal) (sheet : List ℕ) (r : Result ℕ Refusal) (exit entry : List ℕ)
    → MadeBehind (λ (reason refusal : Refusal). refusal ≡ reason) written sheet r exit entry → MadeFrom (answer_of written) sheet (answer_of r) exit entry
made-refusals written sheet r exit entry h =
    rw (answers-refusals written, answers-refusals r) at (made-by-number _ number_of refusals-numbered written sheet r exit entry h)

pub unfolded-refusals : (alphabet : List ℕ) (m : Result ℕ Refusal) (form : List ℕ) (r : Result ℕ Refusal) (counts' counts tree' tree : List ℕ)
    → UnfoldedBehind (λ (reason refusal : Refusal). refusal ≡ reason) alphabet m form r counts' counts tree' tree
    → UnfoldedFrom alphabet (answer_of m) form (answer_of r) counts' counts tree' tree
unfolded-refusals alphabet m form r counts' counts tree' tree h =
    rw (answers-refusals m, answers-refusals r) at (unfolded-by-number _ number_of refusals-numbered alphabet m form r counts' counts tree' tree h)
