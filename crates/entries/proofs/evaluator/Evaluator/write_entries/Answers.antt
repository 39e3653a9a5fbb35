use mathlib.Core.Path.{sym, ◌∙◌}
use native.Mathlib.Omega.{arith}
use lib.ListN.{length-set}
use Rattle.entries.proofs.Entries.{one_written, none_left}
use Rattle.entries.proofs.evaluator.Evaluator.write_entries.Goals as goal

pub loop-number-preserved : goal.loop-number-preserved
loop-number-preserved c =
    (c.loop-number.invariant.0 ∙ one_written _ _ _ _ _ _ (omega arith) _ c.relation_of.ensures, omega arith, simp length-set c.loop-number.invariant.2)

pub returns : goal.returns
returns c =
    sym (c.loop-number.invariant.0 ∙ none_left _ _ _ _ _ _ (omega arith))
