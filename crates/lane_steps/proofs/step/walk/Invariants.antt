-- `lane_steps::step::walk` meets its contract. The loop's invariant: each lane of `targets` has what the transitions before the next one lead to.
use mathlib.Core.Path.{◌≡◌}
use Prim.Native.Nat.{ℕ, ◌<◌}
use lib.ListN.{length}
use Rattle.transitions.proofs.Walking.{Walked}
use Rattle.blackboard_terms.specs.Step.{lane, lanes_at}
use Rattle.lane_steps.proofs.step.walk.Given as goal

abbrev pub invariant-loop-i : goal.invariant-loop-i
invariant-loop-i l = record {
  can_next : (goal.iterator-loop-i).can_next l.i-iterator;
  ends : (goal.iterator-loop-i).is_finite l.i-iterator;
  same : l.i-iterator.linked.now ≡ l.linked;
  terminal : l.i-iterator.terminal ≡ l.fn.terminal;
  found : (p : ℕ) → p < 8 → Walked l.linked.automaton.now (lanes_at p l.children) l.fn.terminal.0 (length l.children) (lane l.targets p) l.i-iterator.next;
}
