-- `adding::add::add_transition` meets its contract: what is claimed of the pass that follows the checks.
use mathlib.Core.Path.{sym}
use Rattle.adding.proofs.Added.{rightly_added}
use Rattle.adding.proofs.add.add_transition.Goals as goal

pub returns-clause-added : goal.returns-clause-added
returns-clause-added c =
    rightly_added _ _ _ _ _ (sym c.in_ok-check_adding.ensures) _ c.add_checked.ensures.relations_after _ c.add_checked.ensures.value
