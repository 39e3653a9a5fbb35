-- What program `mark` says of a sheet (document 01, "Size, label, wrap, tally, program").
use Rattle.std.specs.Prelude.{List, ℕ, Result, Ok, Err}
use Rattle.terms.specs.declared.refusals.Refusal.{Refusal}
use Rattle.terms.specs.Sheet.{Verdict, sheet_tree, sheet_mask, sheet_verdict}
use Rattle.terms.specs.Check.{sheet_refusal}
use Rattle.terms.specs.Count.{size_of, capped}
use Rattle.terms.specs.Answer.{Answer, refused, answered, answer, number_of}
use Rattle.sizing.specs.Size.{number_of_size}
use Rattle.marking.specs.Marking.{verdict_of}
use Rattle.mark_line.specs.declared.line.Line.{Line}

-- verdict, mask and size, of which the largest number of 64 bits represents one that is over, or the number of the refusal (01 Size, label, wrap, tally, program)
abbrev pub answer_of_line : Result Line Refusal → Answer (Verdict × ℕ × ℕ)
answer_of_line (Ok line) = answered (verdict_of line.mark.verdict, line.mark.mask, number_of_size line.size)
answer_of_line (Err refusal) = refused (number_of refusal)

-- the line of a sheet (01 Size, label, wrap, tally, program)
abbrev pub line_of : List ℕ → Answer (Verdict × ℕ × ℕ)
line_of sheet = answer (sheet_refusal sheet) (sheet_verdict sheet, sheet_mask sheet, capped (size_of (sheet_tree sheet)))
