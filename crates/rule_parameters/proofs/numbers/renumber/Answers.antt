use native.Mathlib.Omega.{arith}
use Rattle.rule_parameters.proofs.Changed.{one_changed}
use Rattle.rule_parameters.proofs.numbers.renumber.Goals as goal

pub loop-node-preserved : goal.loop-node-preserved
loop-node-preserved c = one_changed c.loop-node.invariant (omega arith) c.numbered.ensures
