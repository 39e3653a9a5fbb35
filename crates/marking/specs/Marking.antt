-- What marking answers, and how it leaves the slices (document 01, "Size, label, wrap, tally, program").
use Rattle.std.specs.Prelude.{◌≡◌, List, ℕ, length, Result, Ok, Err}
use Rattle.terms.specs.Sheet.{Verdict, alphabet_of, automaton_of, accepted, declined}
use Rattle.terms.specs.declared.refusals.Refusal.{Refusal}
use Rattle.terms.specs.Answer.{refused, answered, number_of}
use Rattle.terms.specs.Calls.{MarkAnswer, lent_after, relations_of}
use Rattle.making.specs.Making.{form_of, FormMade}
use Rattle.marking.specs.declared.answer.Mark.{Mark}
use Rattle.marking.specs.declared.answer.Verdict.{Verdict as Code·Verdict}
use Rattle.marking.specs.declared.answer.Verdict.TheVariants as verdicts

-- a verdict, for each case (01 Size, label, wrap, tally)
abbrev pub verdict_of : Code·Verdict → Verdict
verdict_of verdicts.Accepted = accepted
verdict_of verdicts.Declined = declined

-- what is said of a sheet: its verdict with its mask (01 Size, label, wrap, tally)
abbrev pub said_of_mark : Mark → Verdict × ℕ
said_of_mark mark = (verdict_of mark.verdict, mark.mask)

-- what marking answers: what is said of a sheet, or the number of its refusal (01 Size, label, wrap, tally)
abbrev pub answer_of_mark : Result Mark Refusal → MarkAnswer
answer_of_mark (Ok mark) = answered (said_of_mark mark)
answer_of_mark (Err refusal) = refused (number_of refusal)

-- Lent slices.

-- both slices after marking: as form making and evaluation of the form leave them, and what holds of the form (01 Size, label, wrap, tally)
pub record SlicesLeft (refusal : ℕ) (sheet form' form relations' relations : List ℕ) : Type 0 where
  pub formed : form' ≡ lent_after refusal (form_of sheet) form
  pub evaluated : relations' ≡ lent_after refusal (relations_of (alphabet_of sheet) (automaton_of sheet) (form_of sheet)) relations
  pub made : refusal ≡ 0 → FormMade sheet (length form)
