-- `lane_calls::call::entered` meets its contract: lane by lane, each set is the one that is defined.
use Rattle.terms.specs.Test.{tabulate}
use Rattle.lane_calls.proofs.call.entered.Goals as goal

pub returns : goal.returns
unfolding tabulate
returns c p h =
    rw (c.set_at.ensures p h, c.set_at-2.ensures p h, c.set_at-3.ensures p h, c.set_at-4.ensures p h)
