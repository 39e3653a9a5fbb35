-- `relations::pairs` meets its contract: the table gives the spread of the first set, and its product with the second set has the pairs.
use Rattle.terms.proofs.Automaton.Relation.{matrix_lt}
use Rattle.relations.proofs.Lanes.{spread-times}
use Rattle.relations.proofs.pairs.Goals as goal

pub overflow_mul-result : goal.overflow_mul-result
overflow_mul-result c = rw (c.spread.ensures, spread-times c.args.from c.args.to) (record { fits = matrix_lt _ })

pub returns : goal.returns
returns c = rw c.spread.ensures (spread-times c.args.from c.args.to)
