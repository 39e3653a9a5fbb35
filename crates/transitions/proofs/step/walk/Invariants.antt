-- `transitions::step::walk` meets its contract. The loop's invariant: `pairs` has what the transitions before the next one lead between.
use mathlib.Core.Path.{◌≡◌}
use Rattle.transitions.proofs.Walking.{Walked}
use Rattle.transitions.proofs.step.walk.Given as goal

abbrev pub invariant-loop-i : goal.invariant-loop-i
invariant-loop-i l = record {
  can_next : (goal.iterator-loop-i).can_next l.i-iterator;
  ends : (goal.iterator-loop-i).is_finite l.i-iterator;
  same : l.i-iterator.linked.now ≡ l.linked;
  terminal : l.i-iterator.terminal ≡ l.fn.terminal;
  found : Walked l.linked.automaton.now l.sets l.fn.terminal.0 l.hole l.pairs l.i-iterator.next;
}
