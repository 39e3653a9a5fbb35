-- `transitions::step::all_in` meets its contract. The loop's invariant: what is asked is that the states still to come are in the sets still to come.
use mathlib.Core.Path.{◌≡◌}
use Prim.Native.Nat.{ℕ, ◌<◌}
use lib.ListN.{length, get_or}
use Rattle.terms.specs.Automaton.{all_in}
use Rattle.transitions.proofs.step.all_in.Given as goal

abbrev pub invariant-loop-set : goal.invariant-loop-set
invariant-loop-set l = record {
  can_next : (goal.iterator-loop-set).can_next l.set-iterator;
  ends : (goal.iterator-loop-set).is_finite l.set-iterator;
  same : length l.set-iterator.a.rest.now ≡ length l.set-iterator.b.rest.now;
  small : (j : ℕ) → get_or l.set-iterator.b.rest.now j 0 < 8;
  asked : all_in l.sets l.states ≡ all_in l.set-iterator.a.rest.now l.set-iterator.b.rest.now;
}
