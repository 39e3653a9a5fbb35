-- `relations::compose` meets its contract. The loop's invariant: `composed` has the pairs that a state before m lies between.
use mathlib.Core.Path.{◌≡◌}
use mathlib.Core.Bool.{Bool, ◌&&◌}
use Prim.Native.Nat.{ℕ, ◌-◌, ◌*◌, ◌/◌, ◌^◌, ◌≤◌}
use Rattle.terms.specs.Test.{some}
use Rattle.terms.specs.Automaton.{has}
use Rattle.terms.specs.Relation.{matrix}
use Rattle.relations.proofs.compose.Given as goal

-- `relations::compose` meets its contract. The loop's invariant: `composed` has the pairs that a state before m lies between.
-- the pairs that state m lies between
abbrev pub through : ℕ → ℕ → ℕ → ℕ → ℕ → Bool
through columns outer p q m = has (columns / 2 ^ (8 * m)) p && has (outer / 2 ^ (8 * m)) q

abbrev pub invariant-loop-m : goal.invariant-loop-m
invariant-loop-m l = (l.m ≤ 8) × (l.composed ≡ matrix (λ p q. some l.m (through l.columns l.outer p q)))

abbrev pub decreases-loop-m : goal.decreases-loop-m
decreases-loop-m l = 8 - l.m
