use native.Mathlib.Omega.{arith}
use Rattle.redoing.proofs.Passing.{none_done, next-done}
use Rattle.redoing.proofs.redo.redo_relations.Goals as goal

pub loop-number-init : goal.loop-number-init
loop-number-init c = none_done _ _ _ _ _

pub loop-number-preserved : goal.loop-number-preserved
loop-number-preserved c =
    next-done _ _ _ _ _ c.args.evaluator.now.table.valid _ (omega arith) (omega arith) _ _ c.loop-number.invariant _ _ c.redo_rule.ensures.dependent_after c.redo_rule.ensures.relations_after
