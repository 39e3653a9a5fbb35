-- What label answers (document 01, "Size, label, wrap, tally, program").
use Rattle.std.specs.Prelude.{ℕ, Result, Ok, Err}
use Rattle.terms.specs.declared.Terminal.{Terminal}
use Rattle.terms.specs.declared.refusals.Refusal.{Refusal}
use Rattle.terms.specs.Answer.{Answer, refused, answered, number_of}

-- a terminal, for each case (01 Size, label)
abbrev pub answer_of_label : Result Terminal Refusal → Answer ℕ
answer_of_label (Ok f) = answered f.0
answer_of_label (Err refusal) = refused (number_of refusal)
