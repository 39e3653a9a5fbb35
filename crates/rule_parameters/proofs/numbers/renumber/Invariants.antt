-- `rule_parameters::numbers::renumber` meets its contract. The invariant: the nodes that were passed have their new numbers, and the others are as they were.
use lib.ListN.{drop}
use Rattle.terms.specs.Grammar.{name}
use Rattle.cleaning_terms.specs.Cleaning.{numbered}
use Rattle.rule_parameters.proofs.Changed.{ChangedUpto}
use Rattle.rule_parameters.proofs.numbers.renumber.Given as goal

abbrev pub invariant-loop-node : goal.invariant-loop-node
invariant-loop-node l = ChangedUpto (λ m. numbered (drop l.first l.present) m (name m)) l.initial.nodes l.node-index l.nodes
