-- `automata::check::transition_count` meets its contract: the definition's difference is 0 too where the head is cut.
use native.Mathlib.Omega.{arith}
use Rattle.terms.specs.Sheet.{transition_count}
use Rattle.automata.proofs.check.transition_count.Goals as goal

pub returns : goal.returns
unfolding transition_count
returns c = omega (arith, c.saturating_sub.ensures)
