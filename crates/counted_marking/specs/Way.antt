-- Which count of a candidate an answer moves (document 02, R-1).
use Rattle.std.specs.Prelude.{ℕ, Option, Some, None}
use Rattle.tallies.specs.declared.tally.Way.{Way}
use Rattle.tallies.specs.Counts.{place_of}

-- the place of the count that moves among the candidate's three, 3 where none moves (02 R-1)
abbrev pub moved_place : Option Way → ℕ
moved_place (Some way) = place_of way
moved_place None = 3
