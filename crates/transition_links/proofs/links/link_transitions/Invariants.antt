-- `transition_links::links::link_transitions` meets its contract. The loop's invariant: the transitions from i on are linked.
use Rattle.transition_links.proofs.Linking.{LinkedFrom}
use Rattle.transition_links.proofs.links.link_transitions.Given as goal

abbrev pub invariant-loop-i : goal.invariant-loop-i
invariant-loop-i l = LinkedFrom l.automaton l.i l.links
