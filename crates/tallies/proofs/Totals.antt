-- The old totals are the sums over all sixteen candidates, and what these sum to.
use mathlib.Core.Logic.{◌⊎◌, inl, inr}
use mathlib.Core.Path.{◌≡◌, refl, sym, ap, subst, ◌∙◌}
use mathlib.Core.Bool.{Bool, true, false, cond, not, ◌&&◌, ◌||◌}
use mathlib.Core.List.{List, [], ◌∷◌}
use Prim.Native.Nat.{ℕ, zero, suc, ◌+◌, ◌*◌, ◌≤◌, ◌<◌}
use native.Mathlib.Omega.{arith}
use borrow.Author.Tests.{ltb-false, ne_eqb}
use lib.Dec.{eqb}
use lib.ListN.{length, get_or, length-replicate}
use Rattle.terms.specs.Test.{any}
use Rattle.terms.specs.Answer.{refused}
use Rattle.terms.specs.Calls.{MarkAnswer, tally_count, tally_line, unknown, largest_count, full}
use Rattle.tallies.specs.Turn.{Turn, how_many, sum_below, without}
use Rattle.tallies.specs.Counts.{way, moves, refused_by, uncounted, zero_counts, sum_of, counted}
use Rattle.tallies.specs.Lists.{Call, answer_to, counts_after, final_counts, answers}
use Rattle.tallies.specs.OneSet.{zero_totals, old_answer_to, old_totals}
use Rattle.tallies.specs.Claims.{admitted, totals_of, Unreached, Totalled, left_out, Summed}
use Rattle.tallies.proofs.Numbers.{alone}
use Rattle.tallies.proofs.Places.{length-counted, counted_at}
use Rattle.tallies.proofs.Lines.{known, moves-once, one_way, not_by, answer_by, given, zero_at}
use Rattle.tallies.proofs.Sums.{sum_zero, sum-up, sum_least}

-- three numbers below the largest
none-full : (a b c : ℕ) → a < largest_count → b < largest_count → c < largest_count → any full (a ∷ b ∷ c ∷ []) ≡ false
unfolding any
none-full a b c h k l = rw (ne_eqb a largest_count (λ q. omega arith), ne_eqb b largest_count (λ q. omega arith), ne_eqb c largest_count (λ q. omega arith))

three : (totals : List ℕ) → length totals ≡ 3 → totals ≡ get_or totals 0 0 ∷ get_or totals 1 0 ∷ get_or totals 2 0 ∷ []
three [] e = absurd (omega arith)
three (a ∷ []) e = absurd (omega arith)
three (a ∷ b ∷ []) e = absurd (omega arith)
three (a ∷ b ∷ c ∷ []) e = refl
three (a ∷ b ∷ c ∷ d ∷ totals) e = absurd (omega arith)

totals_free : (totals : List ℕ) → length totals ≡ 3 → Unreached totals → any full totals ≡ false
totals_free totals l b = rw (three totals l) (none-full _ _ _ (b 0 (omega arith)) (b 1 (omega arith)) (b 2 (omega arith)))

counts_free : (totals counts : List ℕ) (c : ℕ) → c < 16 → Totalled totals counts → Unreached totals → any full (tally_line counts c) ≡ false
counts_free totals counts c h s b = none-full _ _ _ (at 0 (omega arith)) (at 1 (omega arith)) (at 2 (omega arith))
  where
    at : (w : ℕ) → w < 3 → tally_count counts c w < largest_count
    at w k = omega (arith, b w k, s w k, sum_least 16 (λ c. tally_count counts c w) c h)

-- how an answer moves the old counts
old_at : (m : MarkAnswer) (totals : List ℕ) (w : ℕ) → length totals ≡ 3 → w < 3 → get_or (counted 0 m totals) w 0 ≡ get_or totals w 0 + cond (eqb (way m) w) 1 0
old_at m totals w l k =
    let e : 3 * 0 + w ≡ w = omega arith in
    subst (λ i. get_or (counted 0 m totals) i 0 ≡ get_or totals i 0 + cond (eqb (way m) w) 1 0) e (counted_at 0 m totals 0 w (omega arith) k)

-- an old count never goes down
old_rises : (totals : List ℕ) (turns : List (Turn Call)) (w : ℕ) → length totals ≡ 3 → w < 3 → get_or totals w 0 ≤ get_or (old_totals totals turns) w 0
unfolding old_totals
old_rises totals [] w l k = omega arith
old_rises totals (turn ∷ turns) w l k =
    let m = old_answer_to totals turn in
    omega (arith, old_rises (counted 0 m totals) turns w (length-counted 0 m totals ∙ l) k, old_at m totals w l k)

-- an answer is 26, or of one of the sixteen and not 26
abbrev Known : Turn Call → MarkAnswer → Type 0
Known turn m = (m ≡ refused 26) ⊎ ((turn.candidate < 16) × (refused_by 26 m ≡ false))

by_26 : (counts : List ℕ) (turn : Turn Call) → Known turn (answer_to counts turn)
by_26 counts turn = go (unknown turn.candidate) (any full (tally_line counts turn.candidate)) refl
  where
    go : (x y : Bool) → unknown turn.candidate ≡ x → Known turn (answer_by x y turn.what)
    go true y e = inl refl
    go false true e = inr (omega (arith, ltb-false 15 turn.candidate e), refl)
    go false false e = inr (omega (arith, ltb-false 15 turn.candidate e), not_by 26 (omega arith) turn.what)

-- The old totals.

totals_of_lem : (totals counts : List ℕ) (turns : List (Turn Call)) → length totals ≡ 3 → length counts ≡ 48 → Totalled totals counts
    → Unreached (old_totals totals (admitted counts turns)) → Totalled (old_totals totals (admitted counts turns)) (final_counts counts turns)
unfolding old_totals final_counts answers without
totals_of_lem totals counts [] l n s b = s
totals_of_lem totals counts (turn ∷ turns) l n s b =
    go (answer_to counts turn) refl (by_26 counts turn) b
    (λ totals l s b. totals_of_lem totals (counts_after counts turn) turns l (length-counted turn.candidate (answer_to counts turn) counts ∙ n) s b)
  where
    go : (m : MarkAnswer) → m ≡ answer_to counts turn → Known turn m →
        let next = counted turn.candidate m counts in
        let these = without (refused_by 26) (turn ∷ turns) (record { candidate = turn.candidate; what = m } ∷ answers next turns) in
        Unreached (old_totals totals these)
        → ((totals : List ℕ) → length totals ≡ 3 → Totalled totals next → Unreached (old_totals totals (admitted next turns)) → Totalled (old_totals totals (admitted next turns)) (final_counts next turns))
        → Totalled (old_totals totals these) (final_counts next turns)
    go m d (inl e) b ih =
        let out : refused_by 26 m ≡ true = rw e in
        rw out (ih totals l (rw e s) (rw out at b))
    go m d (inr (h, e)) b ih =
        let next = counted turn.candidate m counts in
        let b' : Unreached (old_totals totals (turn ∷ admitted next turns)) = rw e at b in
        let below : Unreached totals = λ w k. omega (arith, b' w k, old_rises totals (turn ∷ admitted next turns) w l k) in
        let m-is : m ≡ alone turn.what = d ∙ rw (known h, counts_free totals counts turn.candidate h s below) in
        let old-is : old_answer_to totals turn ≡ alone turn.what = rw (totals_free totals l below) in
        let q : old_answer_to totals turn ≡ m = old-is ∙ sym m-is in
        let sums : Totalled (counted 0 m totals) next
        = λ w k. old_at m totals w l k ∙ rw (s w k) (sym (sum-up 16 (λ c. tally_count counts c w) (λ c. tally_count next c w) turn.candidate (eqb (way m) w) h (λ c j. counted_at turn.candidate m counts c w (omega arith) k))) in
        let x = ih (counted 0 m totals) (length-counted 0 m totals ∙ l) sums (subst (λ a. Unreached (old_totals (counted 0 a totals) (admitted next turns))) q b') in
        rw e (subst (λ a. Totalled (old_totals (counted 0 a totals) (admitted next turns)) (final_counts next turns)) (sym q) x)

zero_totals_lem : Totalled zero_totals zero_counts
zero_totals_lem w k = zeros w k ∙ sym (sum_zero 16 (λ c. tally_count zero_counts c w) (λ c h. zero_at c w h k))
  where
    zeros : (w : ℕ) → w < 3 → get_or zero_totals w 0 ≡ 0
    zeros zero k = refl
    zeros (suc zero) k = refl
    zeros (suc (suc zero)) k = refl
    zeros (suc (suc (suc w))) k = absurd (omega arith)

-- the law of the old totals
pub lists_totalled : (turns : List (Turn Call)) → Unreached (totals_of turns) → Totalled (totals_of turns) (final_counts zero_counts turns)
lists_totalled turns b = totals_of_lem zero_totals zero_counts turns refl (length-replicate {A = ℕ} 48 0) zero_totals_lem b

-- What the counts of all sixteen sum to.

-- an answer to candidate b moves the sum of candidate c's counts, where it moves one
sum_at : (b : ℕ) (m : MarkAnswer) (counts : List ℕ) (c : ℕ) → length counts ≡ 48 → c < 16 → sum_of (counted b m counts) c ≡ sum_of counts c + cond (eqb b c && moves m) 1 0
sum_at b m counts c l h =
    omega (arith, counted_at b m counts c 0 (omega arith) (omega arith), counted_at b m counts c 1 (omega arith) (omega arith), counted_at b m counts c 2 (omega arith) (omega arith), go (eqb b c))
  where
    go : (x : Bool) → cond (x && eqb (way m) 0) 1 0 + cond (x && eqb (way m) 1) 1 0 + cond (x && eqb (way m) 2) 1 0 ≡ cond (x && moves m) 1 0
    go true = moves-once m
    go false = refl

total_of : (counts : List ℕ) (turns : List (Turn Call)) → length counts ≡ 48
    → sum_below 16 (λ c. sum_of (final_counts counts turns) c) ≡ sum_below 16 (λ c. sum_of counts c) + how_many (λ answer. not (left_out answer)) (answers counts turns)
unfolding final_counts answers how_many
total_of counts [] l = omega arith
total_of counts (turn ∷ turns) l =
    let next = counts_after counts turn in
    omega (arith, total_of next turns (length-counted turn.candidate m counts ∙ l), moved (by_26 counts turn))
  where
    m : MarkAnswer
    m = answer_to counts turn

    not_26 : (x : Bool) {y : Bool} → y ≡ false → not x ≡ not (x || y)
    not_26 true e = refl
    not_26 false e = rw e

    moved : Known turn m → sum_below 16 (λ c. sum_of (counts_after counts turn) c) ≡ sum_below 16 (λ c. sum_of counts c) + cond (not (left_out (record { candidate = turn.candidate; what = m }))) 1 0
    moved (inl e) = rw e (omega arith)
    moved (inr (h, e)) =
        sum-up 16 (λ c. sum_of counts c) (λ c. sum_of (counts_after counts turn) c) turn.candidate (moves m) h (λ c j. sum_at turn.candidate m counts c l j)
        ∙ ap (λ b. sum_below 16 (λ c. sum_of counts c) + cond {A = ℕ} b 1 0) (one_way m (given counts turn h) ∙ not_26 (uncounted m) e)

-- the law of the sum
pub lists_summed : (turns : List (Turn Call)) → Summed turns
lists_summed turns =
    omega (arith, total_of zero_counts turns (length-replicate {A = ℕ} 48 0), sum_zero 16 (λ c. sum_of zero_counts c) (λ c h. omega (arith, zero_at c 0 h (omega arith), zero_at c 1 h (omega arith), zero_at c 2 h (omega arith))))
