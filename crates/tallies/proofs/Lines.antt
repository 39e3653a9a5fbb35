-- Each candidate's counts over a list of calls: they are the numbers of its answers, and no other candidate's call moves them.
use mathlib.Core.Logic.{◌⊎◌, inl, inr}
use mathlib.Core.Path.{◌≡◌, refl, ◌∙◌}
use mathlib.Core.Bool.{Bool, true, false, cond, not, ◌&&◌, ◌||◌}
use mathlib.Core.List.{List, [], ◌∷◌}
use Prim.Native.Nat.{ℕ, zero, suc, ◌+◌, ◌*◌, ◌≤◌, ◌<◌}
use native.Mathlib.Omega.{arith}
use native.Mathlib.Decide.{ℕ_discrete}
use borrow.Author.Tests.{le-ltb, ltb-true, ltb-false, eqb-true, eqb-false, ne_eqb}
use lib.Dec.{ltb, eqb}
use lib.ListN.{length, get_or, length-replicate, get_or-replicate}
use lib.Seq.{get_or-set_other}
use Rattle.terms.specs.Test.{any}
use Rattle.terms.specs.Refusal.{◌when◌, or_else, first, outside}
use Rattle.terms.specs.Sheet.{accepted, declined}
use Rattle.terms.specs.Answer.{refused, answered, answer}
use Rattle.terms.specs.Calls.{sheet_marking_refusal, MarkAnswer, sheet_mark, tally_count, tally_line, unknown, largest_count, full}
use Rattle.terms.proofs.Test.{or_false}
use Rattle.tallies.specs.Turn.{Turn, keep, how_many, own}
use Rattle.tallies.specs.Counts.{way, goes, moves, refused_by, uncounted, zero_counts, up, counted}
use Rattle.tallies.specs.Lists.{Call, answer_to, counts_after, final_counts, answers}
use Rattle.tallies.specs.Claims.{Fits, Tallied, OthersKept, LaterKept}
use Rattle.tallies.proofs.Kept.{kept_more}
use Rattle.tallies.proofs.Numbers.{OfSheet, alone, of_sheet}
use Rattle.tallies.proofs.Places.{length-counted, counted_at, counted_other}

pub known : {c : ℕ} → c < 16 → unknown c ≡ false
known {c} h = le-ltb 15 c (omega arith)

at_most_one : (b : Bool) → cond b 1 0 ≤ 1
at_most_one true = omega arith
at_most_one false = omega arith

-- a count of a candidate that is not full can move on
pub not_full : (counts : List ℕ) (c w : ℕ) → any full (tally_line counts c) ≡ false → w < 3 → tally_count counts c w ≡ largest_count → ⊥
unfolding any
not_full counts c w e h = go w h
  where
    a : (full (tally_count counts c 0) ≡ false) × ((full (tally_count counts c 1) || (full (tally_count counts c 2) || false)) ≡ false)
    a = or_false (full (tally_count counts c 0)) (full (tally_count counts c 1) || (full (tally_count counts c 2) || false)) e

    d : (full (tally_count counts c 1) ≡ false) × ((full (tally_count counts c 2) || false) ≡ false)
    d = or_false (full (tally_count counts c 1)) (full (tally_count counts c 2) || false) a.1

    go : (w : ℕ) → w < 3 → tally_count counts c w ≡ largest_count → ⊥
    go zero h = eqb-false _ _ a.0
    go (suc zero) h = eqb-false _ _ d.0
    go (suc (suc zero)) h = eqb-false _ _ (or_false (full (tally_count counts c 2)) false d.1).0
    go (suc (suc (suc w))) h = absurd (omega arith)

-- Each answer to a candidate goes one of the three ways, or is a refusal by 17, 19 or 25.

abbrev pub Given : MarkAnswer → Type 0
Given m = (m ≡ refused 25) ⊎ OfSheet m

pub moves-once : (m : MarkAnswer) → cond (eqb (way m) 0) 1 0 + cond (eqb (way m) 1) 1 0 + cond (eqb (way m) 2) 1 0 ≡ cond (moves m) 1 0
moves-once (answered (accepted, mask)) = refl
moves-once (answered (declined, mask)) = refl
moves-once (refused n) = go (outside 1 16 n)
  where
    go : (b : Bool) → let v = cond {A = ℕ} b 3 2 in cond (eqb v 0) 1 0 + cond (eqb v 1) 1 0 + cond (eqb v 2) 1 0 ≡ cond (ltb v 3) 1 0
    go true = refl
    go false = refl

pub one_way : (m : MarkAnswer) → Given m → moves m ≡ not (uncounted m)
one_way (answered (accepted, mask)) h = refl
one_way (answered (declined, mask)) h = refl
one_way (refused n) (inl e) = let q : n ≡ 25 = cc in rw q
one_way (refused n) (inr (l, inr e)) = rw e
one_way (refused n) (inr (l, inl h)) = go (ℕ_discrete n 17)
  where
    go : Dec (n ≡ 17) → moves (refused n) ≡ not (uncounted (refused n))
    go (yes e) = rw e
    go (no q) =
        rw (le-ltb n 1 l, le-ltb 16 n (omega arith), ne_eqb n 17 q, ne_eqb n 19 (λ e. omega arith), ne_eqb n 25 (λ e. omega arith))

-- marking without a tally refuses by nothing above 19
pub not_by : (k : ℕ) → 19 < k → (call : Call) → refused_by k (alone call) ≡ false
not_by k h call = go (alone call) (of_sheet call)
  where
    go : (m : MarkAnswer) → OfSheet m → refused_by k m ≡ false
    go (answered mark) s = refl
    go (refused n) (l, inl b) = ne_eqb n k (λ e. omega arith)
    go (refused n) (l, inr e) = ne_eqb n k (λ q. omega arith)

-- an answer by what the counts refuse: where the number is known and none of the three counts is full, it is that without a tally
abbrev pub answer_by : Bool → Bool → Call → MarkAnswer
answer_by x y call = answer (or_else (first (26 when x ∷ 25 when y ∷ [])) (sheet_marking_refusal call.sheet call.room call.numbers)) (sheet_mark call.sheet)

pub given : (counts : List ℕ) (turn : Turn Call) → turn.candidate < 16 → Given (answer_to counts turn)
given counts turn h = rw (known h) (go (any full (tally_line counts turn.candidate)))
  where
    go : (b : Bool) → Given (answer_by false b turn.what)
    go true = inl refl
    go false = inr (of_sheet turn.what)

-- what a list adds to each count, whatever the counts were
count_of : (counts : List ℕ) (turns : List (Turn Call)) (c w : ℕ) → length counts ≡ 48 → c < 16 → w < 3
    → tally_count (final_counts counts turns) c w ≡ tally_count counts c w + how_many (goes w) (own c (answers counts turns))
unfolding final_counts answers keep how_many
count_of counts [] c w l h k = omega arith
count_of counts (turn ∷ turns) c w l h k =
    let next = counts_after counts turn in
    let m = answer_to counts turn in
    omega (
      arith,
      count_of next turns c w (length-counted turn.candidate m counts ∙ l) h k,
      counted_at turn.candidate m counts c w (omega arith) k,
      kept_more (goes w) (λ a. eqb a.candidate c) (record { candidate = turn.candidate; what = m }) (answers next turns),
    )

-- the three ways of a candidate's answers
ways_sum : (counts : List ℕ) (turns : List (Turn Call)) (c : ℕ) → c < 16 →
    let mine = own c (answers counts turns) in
    how_many (goes 0) mine + how_many (goes 1) mine + how_many (goes 2) mine ≡ how_many (λ a. not (uncounted a.what)) mine
unfolding answers keep how_many
ways_sum counts [] c h = refl
ways_sum counts (turn ∷ turns) c h =
    let next = counts_after counts turn in
    let answer : Turn MarkAnswer = record { candidate = turn.candidate; what = m } in
    let rest = answers next turns in
    omega (
      arith,
      ways_sum next turns c h,
      kept_more (goes 0) (λ a. eqb a.candidate c) answer rest,
      kept_more (goes 1) (λ a. eqb a.candidate c) answer rest,
      kept_more (goes 2) (λ a. eqb a.candidate c) answer rest,
      kept_more (λ a. not (uncounted a.what)) (λ a. eqb a.candidate c) answer rest,
      go (eqb turn.candidate c) refl,
    )
  where
    m : MarkAnswer
    m = answer_to counts turn

    go : (b : Bool) → eqb turn.candidate c ≡ b
        → cond (b && eqb (way m) 0) 1 0 + cond (b && eqb (way m) 1) 1 0 + cond (b && eqb (way m) 2) 1 0 ≡ cond (b && not (uncounted m)) 1 0
    go true e = moves-once m ∙ rw (one_way m (given counts turn (omega (arith, eqb-true turn.candidate c e))))
    go false e = refl

-- what a call does not move
pub others-kept : (counts : List ℕ) (turn : Turn Call) → OthersKept counts turn
others-kept counts turn c w k q = counted_other turn.candidate (answer_to counts turn) counts c w k q

pub later_kept : (counts : List ℕ) (turn : Turn Call) → LaterKept counts turn
later_kept counts turn i h = go (unknown b) (any full (tally_line counts b)) refl
  where
    b : ℕ
    b = turn.candidate

    m : MarkAnswer
    m = alone turn.what

    go : (x y : Bool) → unknown b ≡ x → get_or (counted b (answer_by x y turn.what) counts) i 0 ≡ get_or counts i 0
    go true y e = refl
    go false true e = refl
    go false false e = moved (moves m) refl
      where
        moved : (z : Bool) → moves m ≡ z → get_or (cond z (up (3 * b + way m) counts) counts) i 0 ≡ get_or counts i 0
        moved true q = get_or-set_other counts (3 * b + way m) i _ 0 (λ p. omega (arith, ltb-false 15 b e, ltb-true (way m) 3 q))
        moved false q = refl

-- No count passes the largest.

-- every count of a candidate fits
abbrev CountsFit : List ℕ → Type 0
CountsFit counts = (c w : ℕ) → c < 16 → w < 3 → Fits (tally_count counts c w)

call_fits : (counts : List ℕ) (turn : Turn Call) → length counts ≡ 48 → CountsFit counts → CountsFit (counts_after counts turn)
call_fits counts turn l s c w h k = go (unknown b) (any full (tally_line counts b)) refl
  where
    b : ℕ
    b = turn.candidate

    go : (x y : Bool) → any full (tally_line counts b) ≡ y → Fits (tally_count (counted b (answer_by x y turn.what) counts) c w)
    go true y e = s c w h k
    go false true e = s c w h k
    go false false e = rw (counted_at b m counts c w (omega arith) k) (at (eqb b c) refl)
      where
        m : MarkAnswer
        m = alone turn.what

        at : (z : Bool) → eqb b c ≡ z → Fits (tally_count counts c w + cond (z && eqb (way m) w) 1 0)
        at true q = omega (arith, s c w h k, not_full counts c w (rw (eqb-true b c q) at e) k, at_most_one (eqb (way m) w))
        at false q = omega (arith, s c w h k)

lists_fit : (counts : List ℕ) (turns : List (Turn Call)) → length counts ≡ 48 → CountsFit counts → CountsFit (final_counts counts turns)
unfolding final_counts
lists_fit counts [] l s = s
lists_fit counts (turn ∷ turns) l s =
    lists_fit (counts_after counts turn) turns (length-counted turn.candidate (answer_to counts turn) counts ∙ l) (call_fits counts turn l s)

pub zero_at : (c w : ℕ) → c < 16 → w < 3 → tally_count zero_counts c w ≡ 0
zero_at c w h k = get_or-replicate {A = ℕ} 48 (3 * c + w) 0 0 (omega arith)

-- the law of lists for one candidate
pub lists_tallied : (turns : List (Turn Call)) (c : ℕ) → c < 16 → Tallied turns c
lists_tallied turns c h =
    let each : (w : ℕ) → w < 3 → tally_count (final_counts zero_counts turns) c w ≡ how_many (goes w) (own c (answers zero_counts turns))
    = λ w k. count_of zero_counts turns c w (length-replicate {A = ℕ} 48 0) h k ∙ rw (zero_at c w h k) (omega arith) in
    record {
      each = each;
      sum = omega (arith, each 0 (omega arith), each 1 (omega arith), each 2 (omega arith), ways_sum zero_counts turns c h);
      fits = λ w k. lists_fit zero_counts turns (length-replicate {A = ℕ} 48 0) (λ c w h k. rw (zero_at c w h k) (omega arith)) c w h k;
    }
