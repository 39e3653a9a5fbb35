use mathlib.Core.Path.{◌≡◌}
use Prim.Native.Nat.{ℕ, ◌+◌, ◌-◌, ◌*◌}
use native.Mathlib.Omega.{arith}
use Rattle.blackboard_terms.specs.Blackboard.{table_length}
use Rattle.blackboard_terms.proofs.Sets.{call_lt}
use Rattle.lane_calls.proofs.Lanes.{filled_more}
use Rattle.lane_calls.proofs.call.call_lanes.Goals as goal

-- from the start of a rule's table to its end
table_part : (r : ℕ) → table_length * r + table_length - table_length * r ≡ table_length
table_part r = omega arith

pub loop-p-preserved : goal.loop-p-preserved
loop-p-preserved c =
    let states = rw (table_part c.args.rule.0) at c.call_in_lane.ensures in
    (omega arith, filled_more _ c.loop-p.p _ _ (omega (arith, c.requires.2)) (call_lt _ _) states c.loop-p.invariant.1)
