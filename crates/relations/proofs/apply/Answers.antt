-- `relations::apply` meets its contract: `pairs` picks the rows of the states, and the folds join them.
use Rattle.relations.proofs.Fold.{joined, joined_is}
use Rattle.relations.proofs.apply.Goals as goal

pub returns : goal.returns
unfolding joined
returns c = joined_is c.args.relation c.args.states c.pairs.result c.pairs.ensures
