-- What size answers (document 01, "Size, label, wrap, tally, program").
use Rattle.std.specs.Prelude.{ℕ, Result, Ok, Err}
use Rattle.terms.specs.declared.refusals.Refusal.{Refusal}
use Rattle.terms.specs.Answer.{Answer, refused, answered, number_of}
use Rattle.terms.specs.Count as count
use Rattle.sizing.specs.declared.answer.Size.{Size}
use Rattle.sizing.specs.declared.answer.Size.TheVariants as size

-- a size, for each case (01 Size, label)
abbrev pub answer_of_size : Result Size Refusal → Answer count.Size
answer_of_size (Ok (size.Exact n)) = answered (count.exact n)
answer_of_size (Ok size.Over) = answered count.over
answer_of_size (Err refusal) = refused (number_of refusal)

-- a size as a number of 64 bits: the largest represents "over" (01 Size, label)
abbrev pub number_of_size : Size → ℕ
number_of_size (size.Exact n) = n
number_of_size size.Over = count.largest
