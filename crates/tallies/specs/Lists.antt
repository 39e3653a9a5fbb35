-- Lists of markings, each with the counts that the one before it left (document 02, R-1).
use Rattle.std.specs.Prelude.{List, [], ◌∷◌, ℕ}
use Rattle.terms.specs.Answer.{answer}
use Rattle.terms.specs.Calls.{MarkAnswer, sheet_mark, marking_refusal}
use Rattle.tallies.specs.Turn.{Turn}
use Rattle.tallies.specs.Counts.{counted}

-- a call of marking, beside its candidate: its sheet, and how many form bytes and numbers are lent to it (02 R-1)
pub record Call : Type 0 where
  pub sheet : List ℕ
  pub room : ℕ
  pub numbers : ℕ

-- marking a sheet for candidate c, with these counts in the tally (02 R-1)
abbrev pub marking : List ℕ → ℕ → List ℕ → ℕ → ℕ → MarkAnswer
marking counts c sheet room numbers = answer (marking_refusal counts c sheet room numbers) (sheet_mark sheet)

-- what a call is answered (02 R-1)
abbrev pub answer_to : List ℕ → Turn Call → MarkAnswer
answer_to counts turn = let call = turn.what in marking counts turn.candidate call.sheet call.room call.numbers

-- the counts that a call leaves (02 R-1)
abbrev pub counts_after : List ℕ → Turn Call → List ℕ
counts_after counts turn = counted turn.candidate (answer_to counts turn) counts

-- the counts that the calls of a list leave (02 R-1)
unfoldable pub final_counts : List ℕ → List (Turn Call) → List ℕ
final_counts counts [] = counts
final_counts counts (turn ∷ turns) = final_counts (counts_after counts turn) turns

-- what the calls of a list are answered (02 R-1)
unfoldable pub answers : List ℕ → List (Turn Call) → List (Turn MarkAnswer)
answers counts [] = []
answers counts (turn ∷ turns) = record { candidate = turn.candidate; what = answer_to counts turn } ∷ answers (counts_after counts turn) turns
