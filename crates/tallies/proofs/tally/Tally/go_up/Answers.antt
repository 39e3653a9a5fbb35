-- `tallies::tally::Tally::go_up` meets its contract: the counts are moved in place, or stay.
use mathlib.Core.Path.{sym, ◌∙◌}
use Rattle.tallies.specs.Counts.{place_of}
use Rattle.tallies.proofs.Steps.{step-refused, step_moved}
use Rattle.tallies.proofs.tally.Tally.go_up.Goals as goal

pub returns-then-is_ok : goal.returns-then-is_ok
returns-then-is_ok c =
    let a = c.args in
    step_moved a.self a.candidate (place_of a.way) c.check_candidate-answer.result c.check_candidate-answer.ensures (sym c.if-is_ok.true ∙ c.is_ok.ensures.value) c.count_up.ensures

pub returns-else-is_ok : goal.returns-else-is_ok
returns-else-is_ok c =
    let a = c.args in
    step-refused a.self a.candidate (place_of a.way) c.check_candidate-answer.result c.check_candidate-answer.ensures (sym c.if-is_ok.false ∙ c.is_ok.ensures.value)
