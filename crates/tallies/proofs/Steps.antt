-- What the code tests of a candidate's line, and what a step leaves.
use mathlib.Core.Path.{◌≡◌, refl}
use mathlib.Core.Bool.{Bool, true, false}
use mathlib.Core.List.{List, [], ◌∷◌}
use Prim.Native.Nat.{ℕ, zero, suc, ◌+◌, ◌*◌, ◌≤◌, ◌<◌}
use native.Mathlib.Omega.{arith}
use borrow.Author.Tests.{le-ltb, ltb-false}
use Rattle.terms.specs.Test.{any}
use Rattle.terms.specs.Refusal.{◌when◌, first}
use Rattle.std.specs.Prelude.{Result, Ok, Err, is_ok}
use Rattle.terms.specs.declared.refusals.Refusal.{Refusal}
use Rattle.terms.specs.Answer.{number_of, refusal_of}
use Rattle.terms.specs.Calls.{tally_count, tally_line, unknown, largest_count, full, tally_refusal}
use Rattle.terms.proofs.Refusal.{numbered}
use Rattle.tallies.specs.declared.tally.Tally.{Tally}
use Rattle.tallies.specs.declared.tally.Way.{Way}
use Rattle.tallies.specs.declared.tally.Way.TheVariants as ways
use Rattle.tallies.specs.Counts.{place_of, up, StepAnswer, answer_of_step, stepped, step}
use Rattle.tallies.proofs.Lines.{not_full}
use Rattle.std.specs.List.{list_any}
use Rattle.std.proofs.Common.{length, get_or, take, drop, length-drop, ◌-◌}
use Rattle.std.proofs.lemmas.List.{get_or-drop}

-- the two words for a test that some element passes
any_listed : (xs : List ℕ) → list_any full xs ≡ any full xs
unfolding any
any_listed [] = refl
any_listed (x ∷ xs) = rw (any_listed xs)

-- the first three elements
three_taken : (xs : List ℕ) → 3 ≤ length xs → take 3 xs ≡ get_or xs 0 0 ∷ get_or xs 1 0 ∷ get_or xs 2 0 ∷ []
three_taken [] h = absurd (omega arith)
three_taken (a ∷ []) h = absurd (omega arith)
three_taken (a ∷ b ∷ []) h = absurd (omega arith)
three_taken (a ∷ b ∷ d ∷ xs) h = refl

module _ (counts : List ℕ) (c : ℕ) where
  -- the slice of the candidate's counts
  pub line_full : 3 * c + 3 ≤ length counts → list_any full (take (3 * c + 3 - 3 * c) (drop (3 * c) counts)) ≡ any full (tally_line counts c)
  line_full h =
      let few : 3 * c + 3 - 3 * c ≡ 3 = omega arith in
      let line = drop (3 * c) counts in
      rw (few, any_listed (take 3 line), three_taken line (omega (arith, length-drop (3 * c) counts))) (simp get_or-drop)

  -- what is refused
  pub gives_25 : c ≤ 15 → any full (tally_line counts c) ≡ true → 25 ≡ tally_refusal counts c
  gives_25 h e = rw (le-ltb 15 c h, e)

  pub gives_none : c ≤ 15 → any full (tally_line counts c) ≡ false → 0 ≡ tally_refusal counts c
  gives_none h e = rw (le-ltb 15 c h, e)

  -- where nothing is refused, the candidate is one of the sixteen, and each count can move on
  pub record Free : Type 0 where
    pub known : c < 16
    pub room : (w : ℕ) → w < 3 → tally_count counts c w ≡ largest_count → ⊥

  pub free : tally_refusal counts c ≡ 0 → Free
  free e = go (unknown c) (any full (tally_line counts c)) refl refl e
    where
      go : (x y : Bool) → unknown c ≡ x → any full (tally_line counts c) ≡ y → first (26 when x ∷ 25 when y ∷ []) ≡ 0 → Free
      go true y a b e = absurd (omega arith)
      go false true a b e = absurd (omega arith)
      go false false a b e = record { known = omega (arith, ltb-false 15 c a); room = λ w k. not_full counts c w b k }

-- a way has one of the three places
pub place_below : (w : Way) → place_of w < 3
place_below ways.Accepted = omega arith
place_below ways.Declined = omega arith
place_below ways.TurnedAway = omega arith

-- a step that is refused, and one that is not
module _ (t : Tally) (c w : ℕ) where
  pub step-refused : (a : Result Unit Refusal) → refusal_of a ≡ tally_refusal t.counts c → false ≡ is_ok a → answer_of_step (record { answer = a; tally = t }) ≡ step t c w
  step-refused (Ok x) e h = absurd (cc)
  step-refused (Err r) e h = go (tally_refusal t.counts c) e
    where
      go : (m : ℕ) → number_of r ≡ m → ◌≡◌ {A = StepAnswer} (record { refusal = number_of r; tally = t }) (stepped m c w t)
      go zero e = absurd (numbered r e)
      go (suc m) e = rw e

  pub step_moved : (a : Result Unit Refusal) → refusal_of a ≡ tally_refusal t.counts c → true ≡ is_ok a → {counts : List ℕ} → counts ≡ up (3 * c + w) t.counts → answer_of_step (record { answer = a; tally = record { counts = counts } }) ≡ step t c w
  step_moved (Err r) e h k = absurd (cc)
  step_moved (Ok x) e h k = rw (← e, k)
