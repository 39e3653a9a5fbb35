-- `relations::table::spread` meets its contract: the table is computed to be the list of the lanes of every set.
use mathlib.Core.Path.{refl}
use native.Mathlib.Omega.{arith}
use Rattle.terms.specs.Test.{tabulate}
use Rattle.relations.specs.declared.table.TheConstants.{SPREAD}
use Rattle.relations.proofs.Lanes.{lanes, all-spreads}
use Rattle.relations.proofs.table.spread.Goals as goal

pub returns : goal.returns
unfolding lanes tabulate
returns c = all-spreads SPREAD refl c.args.states (omega arith)
