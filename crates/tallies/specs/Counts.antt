-- How an answer and a step move the counts of a candidate (document 02, R-1).
use Rattle.std.specs.Prelude.{Bool, false, cond, ◌||◌, List, ℕ, zero, suc, ◌+◌, ◌*◌, ltb, eqb, get_or, set, replicate}
use Rattle.terms.specs.Refusal.{outside}
use Rattle.terms.specs.Sheet.{accepted, declined}
use Rattle.terms.specs.Answer.{refused, answered, refusal_of}
use Rattle.terms.specs.Calls.{MarkAnswer, tally_count, tally_refusal}
use Rattle.tallies.specs.declared.tally.Tally.{Tally}
use Rattle.tallies.specs.declared.tally.Step.{Step}
use Rattle.tallies.specs.declared.tally.Way.{Way}
use Rattle.tallies.specs.declared.tally.Way.TheVariants as ways
use Rattle.tallies.specs.Turn.{Turn}

-- Answers.

-- which of a candidate's three counts an answer moves: 0 for accepted, 1 for declined, 2 for turned away, which is refused by 1 to 16; 3 where it moves none (02 R-1)
abbrev pub way : MarkAnswer → ℕ
way (answered (accepted, mask)) = 0
way (answered (declined, mask)) = 1
way (refused n) = cond (outside 1 16 n) 3 2

-- an answer that goes way w (02 R-1)
abbrev pub goes : ℕ → Turn MarkAnswer → Bool
goes w answer = eqb (way answer.what) w

-- an answer that moves a count (02 R-1)
abbrev pub moves : MarkAnswer → Bool
moves mark = ltb (way mark) 3

-- refused by this number (02 R-1)
abbrev pub refused_by : ℕ → MarkAnswer → Bool
refused_by k (refused n) = eqb n k
refused_by k (answered mark) = false

-- refused by 17, 19 or 25 (02 R-1)
abbrev pub uncounted : MarkAnswer → Bool
uncounted mark = refused_by 17 mark || (refused_by 19 mark || refused_by 25 mark)

-- Counts.

-- every count 0 (02 R-1)
abbrev pub zero_counts : List ℕ
zero_counts = replicate 48 0

-- the sum of candidate c's three counts (02 R-1)
abbrev pub sum_of : List ℕ → ℕ → ℕ
sum_of counts c = tally_count counts c 0 + tally_count counts c 1 + tally_count counts c 2

-- a list with the number at place i higher by one (02 R-1)
abbrev pub up : ℕ → List ℕ → List ℕ
up i numbers = set numbers i (get_or numbers i 0 + 1)

-- the counts after an answer to candidate c (02 R-1)
abbrev pub counted : ℕ → MarkAnswer → List ℕ → List ℕ
counted c mark counts = cond (moves mark) (up (3 * c + way mark) counts) counts

-- Steps.

-- the place of a way among the three counts of a candidate (02 R-1)
abbrev pub place_of : Way → ℕ
place_of ways.Accepted = 0
place_of ways.Declined = 1
place_of ways.TurnedAway = 2

-- what is said of a step: the number of its refusal, 0 for none, and the tally that it leaves (02 R-1)
pub record StepAnswer : Type 0 where
  pub refusal : ℕ
  pub tally : Tally

-- what a step of the code says (02 R-1)
abbrev pub answer_of_step : Step → StepAnswer
answer_of_step s = record { refusal = refusal_of s.answer; tally = s.tally }

-- a step of way w for candidate c, where the tally refuses by this number, 0 for none; way 0 is accept, 1 decline, 2 turn away (02 R-1)
abbrev pub stepped : ℕ → ℕ → ℕ → Tally → StepAnswer
stepped zero c w t = record { refusal = 0; tally = record { counts = up (3 * c + w) t.counts } }
stepped (suc n) c w t = record { refusal = suc n; tally = t }

-- a step of way w for candidate c, refused by what refuses a marking first: 26, 25 (02 R-1)
abbrev pub step : Tally → ℕ → ℕ → StepAnswer
step t c w = stepped (tally_refusal t.counts c) c w t
