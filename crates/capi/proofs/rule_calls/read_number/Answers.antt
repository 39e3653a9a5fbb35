-- `capi::rule_calls::read_number` meets its contract: all numbers that no rule has are read alike.
use mathlib.Core.Path.{◌∙◌}
use Rattle.capi.proofs.RuleRead.{read_within}
use Rattle.capi.proofs.rule_calls.read_number.Goals as goal

pub returns : goal.returns
returns c = let read = rw c.min.ensures at c.read.ensures in read ∙ read_within _ _ c.args.number
