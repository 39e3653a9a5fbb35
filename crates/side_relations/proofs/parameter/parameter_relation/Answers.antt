-- `side_relations::parameter::parameter_relation` meets its contract: the first parameter's states are the lanes, and another one's state is a digit of the choice.
use native.Mathlib.Omega.{arith}
use Rattle.side_relations.proofs.Parameters.{identity-lane, other_lane}
use Rattle.side_relations.proofs.parameter.parameter_relation.Goals as goal

pub returns-then-parameter-eq0 : goal.returns-then-parameter-eq0
returns-then-parameter-eq0 c p h = rw c.if-parameter-eq0.true (identity-lane c.args.choice p h)

pub returns : goal.returns
returns c p h =
    other_lane c.args.choice p c.args.parameter h (omega arith) c.requires
