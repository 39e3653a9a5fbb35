-- The loop's invariant: the relations for the states before the one at hand are joined. A call of itself has one parameter less to choose for.
use mathlib.Core.Path.{◌≡◌}
use Prim.Native.Nat.{◌-◌, ◌≤◌}
use Rattle.blackboard_terms.specs.Step.{lanes_at}
use Rattle.lane_calls.proofs.Choices.{ways}
use Rattle.lane_calls.proofs.call.+joined.Given as goal

abbrev pub decreases-joined : goal.decreases-joined
decreases-joined l = l.parameters

abbrev pub invariant-loop-state : goal.invariant-loop-state
invariant-loop-state l = (l.state ≤ 8) × (l.all ≡ ways l.table (lanes_at l.p l.sets) (l.parameters - 1) l.chosen l.state)
