-- A list of markings with what must come out of it, and steps (document 02, R-1).
use Rattle.std.specs.Prelude.{List, [], ◌∷◌, ◌++◌, ℕ, set, replicate}
use Rattle.terms.specs.Sheet.{accepted, declined}
use Rattle.terms.specs.Answer.{refused, answered}
use Rattle.terms.specs.Calls.{MarkAnswer}
use Rattle.terms.specs.Examples.{W, w_with}
use Rattle.terms.specs.CallExamples.{counting}
use Rattle.tallies.specs.Turn.{Turn}
use Rattle.tallies.specs.Counts.{StepAnswer, step}
use Rattle.tallies.specs.Lists.{Call}

-- a call of candidate c, with 17 numbers lent (02 R-1)
abbrev pub called : ℕ → List ℕ → ℕ → Turn Call
called c sheet room = record { candidate = c; what = record { sheet = sheet; room = room; numbers = 17 } }

-- W, W with state 1 final, nothing, W for a candidate that is none, and W with a byte fewer for its form than marking asks for (02 R-1)
unfoldable pub listed : List (Turn Call)
listed = called 0 W 212 ∷ called 1 (w_with 33 0x02) 212 ∷ called 0 [] 212 ∷ called 16 W 212 ∷ called 1 W 211 ∷ []

-- what they are answered (02 R-1)
abbrev pub listed_answers : List MarkAnswer
listed_answers = answered (accepted, 1) ∷ answered (declined, 1) ∷ refused 1 ∷ refused 26 ∷ refused 17 ∷ []

-- the counts that they leave: candidate 0 has one accepted and one turned away, candidate 1 one declined (02 R-1)
abbrev pub listed_counts : List ℕ
listed_counts = (1 ∷ 0 ∷ 1 ∷ 0 ∷ 1 ∷ 0 ∷ []) ++ replicate 42 0

-- the old totals of those that 26 does not refuse (02 R-1)
abbrev pub listed_totals : List ℕ
listed_totals = 1 ∷ 1 ∷ 1 ∷ []

-- a step and what it must answer (02 R-1)
pub record StepRow : Type 0 where
  pub gives : StepAnswer
  pub says : StepAnswer

-- a step for candidate c with these counts, and the number and the counts that it must answer (02 R-1)
abbrev pub step_row : List ℕ → ℕ → ℕ → ℕ → List ℕ → StepRow
step_row counts c w refusal left = record {
  gives = step (record { counts = counts }) c w;
  says = record { refusal = refusal; tally = record { counts = left } };
}

-- each step, then 25 for each count of the candidate, then 26; other candidates' counts are not looked at (02 R-1)
unfoldable pub steps : List StepRow
steps =
    step_row (counting 2 0 5) 2 0 0 (counting 2 0 6)
    ∷ step_row (counting 2 1 5) 2 1 0 (counting 2 1 6)
    ∷ step_row (counting 2 2 5) 2 2 0 (counting 2 2 6)
    ∷ step_row (counting 15 2 4_294_967_294) 15 2 0 (counting 15 2 4_294_967_295)
    ∷ step_row (counting 2 0 4_294_967_295) 2 2 25 (counting 2 0 4_294_967_295)
    ∷ step_row (counting 2 1 4_294_967_295) 2 0 25 (counting 2 1 4_294_967_295)
    ∷ step_row (counting 2 2 4_294_967_295) 2 1 25 (counting 2 2 4_294_967_295)
    ∷ step_row (counting 2 2 4_294_967_295) 3 0 0 (set (counting 2 2 4_294_967_295) 9 1)
    ∷ step_row (counting 0 0 5) 16 0 26 (counting 0 0 5)
    ∷ step_row (counting 0 0 4_294_967_295) 16 1 26 (counting 0 0 4_294_967_295)
    ∷ step_row (counting 0 0 5) 256 2 26 (counting 0 0 5)
    ∷ []
