-- `forms::table::RuleTable::kind_of` meets its contract: a rule that fits has no kind above 3.
use native.Mathlib.Omega.{arith}
use Rattle.forms.proofs.Rules.{kind-low}
use Rattle.forms.proofs.table.RuleTable.kind_of.Goals as goal

pub returns-in_default : goal.returns-in_default
returns-in_default c = omega (arith, kind-low _ _ c.args.self.now.valid _ c.requires)
