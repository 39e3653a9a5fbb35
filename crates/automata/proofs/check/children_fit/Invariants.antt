-- `automata::check::children_fit` meets its contract. The invariant: all child states fit if those below j do.
use mathlib.Core.Path.{◌≡◌}
use mathlib.Core.Bool.{Bool}
use mathlib.Core.List.{List}
use Prim.Native.Nat.{ℕ, ◌+◌, ◌≤◌}
use Rattle.terms.specs.Test.{every}
use Rattle.terms.specs.Sheet.{state_count, transition_byte}
use Rattle.terms.specs.Check.{child_fits}
use Rattle.automata.proofs.check.children_fit.Given as goal

-- `automata::check::children_fit` meets its contract. The invariant: all child states fit if those below j do.
-- child state k of transition i fits
abbrev pub fits : List ℕ → ℕ → ℕ → ℕ → Bool
fits automaton i rank k = child_fits (state_count automaton) rank k (transition_byte automaton i (2 + k))

abbrev pub invariant-loop-j : goal.invariant-loop-j
invariant-loop-j l = (l.j ≤ 4) × (every 4 (fits l.automaton l.i l.rank) ≡ every l.j (fits l.automaton l.i l.rank))
