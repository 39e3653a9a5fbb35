-- What the blackboard method says of runs (document 02, R-7).
use Rattle.std.specs.Prelude.{List, ℕ}
use Rattle.terms.specs.Answer.{Answer, refused, answered}
use Rattle.blackboard_terms.specs.Claims.{BlackboardRuns}

-- what a mask that is answered, and the slice after the call, say of runs (02 R-7)
abbrev pub RightByRuns : List ℕ → Answer ℕ → List ℕ → Type 0
RightByRuns sheet (refused n) table = Unit {0}
RightByRuns sheet (answered mask) table = BlackboardRuns sheet table mask
