-- `lane_steps::step::lanes_with` meets its contract. The loop's invariant: `lanes` has a 1 where the states so far are in the sets so far, and what is asked is that
-- the states still to come are in the sets still to come as well.
use mathlib.Core.Path.{◌≡◌}
use mathlib.Core.Bool.{Bool, ◌&&◌}
use Prim.Native.Nat.{ℕ, ◌<◌}
use lib.ListN.{length, get_or}
use Rattle.terms.specs.Automaton.{all_in}
use Rattle.blackboard_terms.specs.Step.{lanes_at}
use Rattle.lane_steps.proofs.Lanes.{ones}
use Rattle.lane_steps.proofs.step.lanes_with.Given as goal

abbrev pub invariant-loop-child : goal.invariant-loop-child
invariant-loop-child l = record {
  can_next : (goal.iterator-loop-child).can_next l.child-iterator;
  ends : (goal.iterator-loop-child).is_finite l.child-iterator;
  same : length l.child-iterator.a.rest.now ≡ length l.child-iterator.b.rest.now;
  small : (j : ℕ) → get_or l.child-iterator.b.rest.now j 0 < 8;
  so_far : ℕ → Bool;
  are : l.lanes ≡ ones so_far;
  asked : (p : ℕ) → all_in (lanes_at p l.children) l.states ≡ so_far p && all_in (lanes_at p l.child-iterator.a.rest.now) l.child-iterator.b.rest.now;
}
