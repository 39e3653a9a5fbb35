-- `transition_links::links::TransitionsOf::next` meets its contract: the link of a transition leads to the next of its terminal.
use native.Mathlib.Omega.{arith}
use Rattle.terms.proofs.Sheet.Automaton.{automaton_passed}
use Rattle.transition_links.proofs.links.TransitionsOfIterator.next.Goals as goal

pub bounds-self-i : goal.bounds-self-i
bounds-self-i c =
    let l = c.args.self.now.linked.now in
    omega (arith, (automaton_passed _ _ l.automaton_passes).few, l.counted)
