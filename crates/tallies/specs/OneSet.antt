-- Document 01's tally: one set of three counts for all calls, accepted, declined, turned away, here a list of three numbers. R-1 speaks of its counts as the
-- old totals. No code has it.
use Rattle.std.specs.Prelude.{List, [], ◌∷◌, ℕ}
use Rattle.terms.specs.Test.{any}
use Rattle.terms.specs.Refusal.{◌when◌, or_else}
use Rattle.terms.specs.Answer.{answer}
use Rattle.terms.specs.Calls.{sheet_marking_refusal, MarkAnswer, sheet_mark, full}
use Rattle.tallies.specs.Turn.{Turn}
use Rattle.tallies.specs.Counts.{counted}
use Rattle.tallies.specs.Lists.{Call}

-- every count 0 (01 Size, label, wrap, tally)
abbrev pub zero_totals : List ℕ
zero_totals = 0 ∷ 0 ∷ 0 ∷ []

-- what a call is answered, whoever its candidate is: 25, then what is refused without a tally (01 Refusals)
abbrev pub old_answer_to : List ℕ → Turn Call → MarkAnswer
old_answer_to totals turn =
    let call = turn.what in
    answer (or_else (25 when (any full totals)) (sheet_marking_refusal call.sheet call.room call.numbers)) (sheet_mark call.sheet)

-- the counts that the calls of a list leave; they move as those of a single candidate do (01 Size, label, wrap, tally)
unfoldable pub old_totals : List ℕ → List (Turn Call) → List ℕ
old_totals totals [] = totals
old_totals totals (turn ∷ turns) = old_totals (counted 0 (old_answer_to totals turn) totals) turns
