-- `grammars::rules::check_rule` meets its contract. The loop's invariant, over the nodes from a place on: they are allowed, and the trees that they make, the
-- times that each parameter occurs and the rules of a form that they take are counted. A node that is not allowed is refusal 9; with all nodes passed, the
-- counts decide 10 and 11.
use Rattle.grammars.proofs.Rule.{Scanned}
use Rattle.grammars.proofs.rules.check_rule.Given as goal

abbrev pub invariant-loop-left : goal.invariant-loop-left
invariant-loop-left l = Scanned l.alphabet l.ranks l.rule.0 l.rank l.nodes l.behind l.counts l.takes l.left
