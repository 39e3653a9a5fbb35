-- What R-1 promises of every list of calls of marking from the zero tally, and of every single call (document 02).
use Rattle.std.specs.Prelude.{◌≡◌, Bool, not, ◌||◌, List, ℕ, ◌≤◌, ◌<◌, get_or}
use Rattle.terms.specs.Calls.{MarkAnswer, tally_count, largest_count}
use Rattle.tallies.specs.Turn.{Turn, how_many, sum_below, own, without}
use Rattle.tallies.specs.Counts.{goes, refused_by, uncounted, zero_counts, sum_of}
use Rattle.tallies.specs.Lists.{Call, counts_after, final_counts, answers}
use Rattle.tallies.specs.OneSet.{zero_totals, old_totals}

-- Lists of calls.

-- a count that is no higher than 4,294,967,295 (02 R-1)
abbrev pub Fits : ℕ → Type 0
Fits n = n ≤ largest_count

-- each of candidate c's counts is the number of its calls answered that way, the three sum to its calls not answered by 17, 19 or 25, and none is above
-- 4,294,967,295 (02 R-1)
pub record Tallied (turns : List (Turn Call)) (c : ℕ) : Type 0 where
  pub each : (w : ℕ) → w < 3 → tally_count (final_counts zero_counts turns) c w ≡ how_many (goes w) (own c (answers zero_counts turns))
  pub sum : sum_of (final_counts zero_counts turns) c ≡ how_many (λ answer. not (uncounted answer.what)) (own c (answers zero_counts turns))
  pub fits : (w : ℕ) → w < 3 → Fits (tally_count (final_counts zero_counts turns) c w)

-- the calls of a list from these counts that 26 does not refuse (02 R-1)
abbrev pub admitted : List ℕ → List (Turn Call) → List (Turn Call)
admitted counts turns = without (refused_by 26) turns (answers counts turns)

-- the old totals: document 01's counts after those calls (02 R-1)
abbrev pub totals_of : List (Turn Call) → List ℕ
totals_of turns = old_totals zero_totals (admitted zero_counts turns)

-- no old total reaches 4,294,967,295 (02 R-1)
abbrev pub Unreached : List ℕ → Type 0
Unreached totals = (w : ℕ) → w < 3 → get_or totals w 0 < largest_count

-- the old totals are the sums over all sixteen (02 R-1)
abbrev pub Totalled : List ℕ → List ℕ → Type 0
Totalled totals counts = (w : ℕ) → w < 3 → get_or totals w 0 ≡ sum_below 16 (λ c. tally_count counts c w)

-- refused by 17, 19, 25 or 26 (02 R-1)
abbrev pub left_out : Turn MarkAnswer → Bool
left_out answer = uncounted answer.what || refused_by 26 answer.what

-- the counts of all sixteen sum to the calls not answered by 17, 19 or 25, and 26 is left out too (02 R-1)
abbrev pub Summed : List (Turn Call) → Type 0
Summed turns = sum_below 16 (λ c. sum_of (final_counts zero_counts turns) c) ≡ how_many (λ answer. not (left_out answer)) (answers zero_counts turns)

-- Single calls, whatever the counts are.

-- a call leaves the counts of every candidate but its own as they were (02 R-1)
abbrev pub OthersKept : List ℕ → Turn Call → Type 0
OthersKept counts turn = (c w : ℕ) → w < 3 → (turn.candidate ≡ c → ⊥) → tally_count (counts_after counts turn) c w ≡ tally_count counts c w

-- a call leaves whatever stands behind the 48 counts as it was (02 R-1)
abbrev pub LaterKept : List ℕ → Turn Call → Type 0
LaterKept counts turn = (i : ℕ) → 48 ≤ i → get_or (counts_after counts turn) i 0 ≡ get_or counts i 0
