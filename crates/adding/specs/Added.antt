-- What adding a transition says of the slice and of the answer (document 02, R-8).
use Rattle.std.specs.Prelude.{List, ℕ}
use Rattle.terms.specs.Answer.{Answer, refused, answered}
use Rattle.terms.specs.Runs.{EvaluationRuns}
use Rattle.adding_terms.specs.Adding.{longer}
use Rattle.adding_terms.specs.Claims.{EntriesRedone, HeldOld, CarriedOver}

-- what the slice and the mask are that are left of numbers held, whatever they were: each entry is redone or kept; and where these were the old automaton's relations,
-- the slice and the mask are those of a fresh evaluation of the longer one, as runs say, and no bit is lost (02 R-8)
abbrev pub RightlyAdded : List ℕ → List ℕ → List ℕ → List ℕ → List ℕ → Answer ℕ → List ℕ → Type 0
RightlyAdded alphabet form automaton new held (refused n) left = Unit {0}
RightlyAdded alphabet form automaton new held (answered mask) left =
    EntriesRedone alphabet form automaton new held left mask
    × (HeldOld alphabet form automaton held → CarriedOver alphabet form automaton new held left mask × EvaluationRuns alphabet (longer automaton new) form left mask)
