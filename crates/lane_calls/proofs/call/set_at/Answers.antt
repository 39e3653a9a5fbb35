-- `lane_calls::call::set_at` meets its contract: it asks the two questions of the definition, in its order.
use mathlib.Core.Bool.{and-false}
use Prim.Native.Nat.{◌≤◌}
use borrow.Author.Rules.{rules}
use borrow.Author.Tests.{le-ltb}
use lib.Dec.{ltb}
use lib.ListN.{length}
use Rattle.lane_calls.proofs.Lanes.{lane_zero}
use Rattle.lane_calls.proofs.call.set_at.Goals as goal

-- the parameter is absent
pub returns-in_default : goal.returns-in_default
returns-in_default c p h = rw (c.if-present-rule.false, and-false (ltb c.args.j (length c.args.arguments.now))) (lane_zero p h)

-- there is no argument
pub returns-in_default-2 : goal.returns-in_default-2
returns-in_default-2 c p h =
    let none : length c.args.arguments.now ≤ c.args.j = search rules in
    rw (le-ltb _ _ none) (lane_zero p h)
