-- What evaluating a form says of runs (document 01, "Mask from the form").
use Rattle.std.specs.Prelude.{List, ℕ}
use Rattle.terms.specs.Answer.{Answer, refused, answered}
use Rattle.terms.specs.Runs.{EvaluationRuns}

-- what a mask that is answered, and the slice after the call, say of runs (01 Mask from the form)
abbrev pub RightByRuns : List ℕ → List ℕ → List ℕ → Answer ℕ → List ℕ → Type 0
RightByRuns alphabet automaton form (refused n) relations = Unit {0}
RightByRuns alphabet automaton form (answered mask) relations = EvaluationRuns alphabet automaton form relations mask
