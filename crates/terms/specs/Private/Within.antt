-- What a call wrote lies in the slice.
use Rattle.std.specs.Prelude.{ℕ, ◌≤◌}
use Rattle.terms.specs.Answer.{Answer, refused, answered}

-- a call that answered how many bytes it wrote wrote no more than so many (01 Refusals)
abbrev pub Within : Answer ℕ → ℕ → Type 0
Within (refused n) room = Unit {0}
Within (answered n) room = n ≤ room
