-- Marking with the tally as a list of counts: what an answer says of its number, the verdict, the mask and the counts.
use mathlib.Core.Path.{◌≡◌, refl, sym, ap, ◌∙◌}
use mathlib.Core.List.{List}
use Prim.Native.Nat.{ℕ, zero, suc, ◌≤◌, ◌<◌}
use native.Mathlib.Omega.{arith}
use borrow.Author.Tests.{lt-ltb, le-ltb}
use lib.ListN.{length}
use Rattle.terms.specs.Sheet.{Verdict, sheet_mask, sheet_verdict}
use Rattle.terms.specs.Calls.{MarkAnswer, sheet_mark, marking_refusal}
use Rattle.marking.specs.Marking.{SlicesLeft}
use Rattle.tallies.specs.Counts.{counted}
use Rattle.tallies.specs.Lists.{marking}
use Rattle.capi.specs.Result.{result_after}
use Rattle.terms.specs.Answer.{Answer, refused, answered, answer}
use Rattle.capi.specs.Mark.{verdict_number, mark_refusal, tally_left}

-- the number of an answer, and what stands behind a pointer, where a value stands as a number
abbrev pub number_in : {A : Type 0} → Answer A → ℕ
number_in (refused n) = n
number_in (answered x) = 0

abbrev pub result_in : {A : Type 0} → (A → ℕ) → Answer A → ℕ → ℕ
result_in f (refused n) b = b
result_in f (answered x) b = f x

-- two results of an answer
both_say : {A : Type 0} (f g : A → ℕ) (k : ℕ) (v : A) (b c : ℕ) {r : Answer A} → answer k v ≡ r
    → (number_in r ≡ k) × ((result_in f r b ≡ result_after k (f v) b) × (result_in g r c ≡ result_after k (g v) c))
both_say f g zero v b c e = rw (← e) (refl, (refl, refl))
both_say f g (suc k) v b c e = rw (← e) (refl, (refl, refl))

-- the results of a mark: the verdict as a number, and the mask
abbrev verdict_in : Verdict × ℕ → ℕ
verdict_in mark = verdict_number mark.0

abbrev mask_in : Verdict × ℕ → ℕ
mask_in mark = mark.1

module _ (tally : List ℕ) (c : ℕ) (sheet form relations : List ℕ) (v m : ℕ) where
  abbrev refusal : ℕ
  refusal = mark_refusal tally c sheet (length form) (length relations)

  -- all that is promised: the number, the counts, the slices, the verdict and the mask
  abbrev pub Marked : ℕ → List ℕ → List ℕ → List ℕ → ℕ → ℕ → Type 0
  Marked n tally' form' relations' x y =
      (n ≡ refusal)
      × ((tally' ≡ tally_left tally c sheet (length form) (length relations))
      × (SlicesLeft refusal sheet form' form relations' relations
      × ((x ≡ result_after refusal (verdict_number (sheet_verdict sheet)) v)
      × (y ≡ result_after refusal (sheet_mask sheet) m))))

  -- a list that is too short
  pub short-marked : length tally < 48 → Marked 19 tally form relations v m
  unfolding mark_refusal tally_left
  short-marked h = rw (lt-ltb (length tally) 48 h) (refl, (refl, (record { formed = refl; evaluated = refl; made = λ z. absurd (omega arith) }, (refl, refl))))

  -- an answer of marking
  pub marked : 48 ≤ length tally → (tally' form' relations' : List ℕ) (r e : MarkAnswer) → r ≡ marking tally c sheet (length form) (length relations)
      → tally' ≡ counted c r tally
      → SlicesLeft (marking_refusal tally c sheet (length form) (length relations)) sheet form' form relations' relations
      → r ≡ e → Marked (number_in e) tally' form' relations' (result_in verdict_in e v) (result_in mask_in e m)
  unfolding mark_refusal tally_left
  marked h tally' form' relations' r e answer moved slices is =
      let k = marking_refusal tally c sheet (length form) (length relations) in
      let says = both_say verdict_in mask_in k (sheet_mark sheet) v m (sym answer ∙ is) in
      let left = moved ∙ ap (λ (x : MarkAnswer). counted c x tally) answer in
      rw (le-ltb (length tally) 48 h) (says.0, (left, (slices, says.1)))
