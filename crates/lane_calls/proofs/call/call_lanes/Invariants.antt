-- `lane_calls::call::call_lanes` meets its contract. The loop's invariant: the lanes before p have the states of the call.
use Prim.Native.Nat.{◌≤◌}
use lib.ListN.{take, drop}
use Rattle.blackboard_terms.specs.Blackboard.{table_length}
use Rattle.blackboard_terms.specs.Step.{call_states, lanes_at}
use Rattle.lane_calls.proofs.Lanes.{Filled}
use Rattle.lane_calls.proofs.call.call_lanes.Given as goal

abbrev pub invariant-loop-p : goal.invariant-loop-p
invariant-loop-p l = (l.p ≤ l.lanes) × Filled (λ k. call_states (take table_length (drop l.start l.tables)) (lanes_at k l.sets)) l.p l.states
