-- `automata::check::transitions_fit` meets its contract. The invariant: all transitions fit if those below i do. Each lies inside the automaton, since 6 times their number
-- is at most what follows the head.
use mathlib.Core.Path.{◌≡◌}
use Prim.Native.Nat.{◌≤◌}
use Rattle.terms.specs.Test.{every}
use Rattle.terms.specs.Sheet.{transition_count}
use Rattle.terms.specs.Check.{transition_fits}
use Rattle.automata.proofs.check.transitions_fit.Given as goal

abbrev pub invariant-loop-i : goal.invariant-loop-i
invariant-loop-i l = (l.i ≤ transition_count l.automaton) × (every (transition_count l.automaton) (transition_fits l.alphabet l.automaton) ≡ every l.i (transition_fits l.alphabet l.automaton))
