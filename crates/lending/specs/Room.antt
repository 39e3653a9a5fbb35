-- What is answered to how much form making and marking ask for (document 02, R-6).
use Rattle.std.specs.Prelude.{ℕ, Result, Ok, Err}
use Rattle.terms.specs.declared.refusals.Refusal.{Refusal}
use Rattle.terms.specs.Answer.{Answer, refused, answered, number_of}
use Rattle.lending.specs.declared.Asked.{Asked}

-- bytes for the form and numbers for its relations, or the number of the refusal (02 R-6)
abbrev pub answer_of_room : Result Asked Refusal → Answer (ℕ × ℕ)
answer_of_room (Ok asked) = answered (asked.bytes, asked.numbers)
answer_of_room (Err refusal) = refused (number_of refusal)
