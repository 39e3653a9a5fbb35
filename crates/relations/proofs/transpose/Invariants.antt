-- `relations::transpose` meets its contract. The loop's invariant: `columns` has the rows before p, each as a column.
use mathlib.Core.Path.{◌≡◌}
use mathlib.Core.Bool.{Bool, ◌&&◌}
use Prim.Native.Nat.{ℕ, ◌-◌, ◌*◌, ◌/◌, ◌^◌, ◌≤◌}
use Rattle.terms.specs.Test.{some}
use Rattle.terms.specs.Automaton.{has}
use Rattle.terms.specs.Relation.{matrix}
use Rattle.relations.proofs.transpose.Given as goal

-- `relations::transpose` meets its contract. The loop's invariant: `columns` has the rows before p, each as a column.
-- row k as column k
abbrev pub column : ℕ → ℕ → ℕ → ℕ → Bool
column relation a b k = has (relation / 2 ^ (8 * k)) a && has (2 ^ k) b

abbrev pub invariant-loop-p : goal.invariant-loop-p
invariant-loop-p l = (l.p ≤ 8) × (l.columns ≡ matrix (λ a b. some l.p (column l.relation a b)))

abbrev pub decreases-loop-p : goal.decreases-loop-p
decreases-loop-p l = 8 - l.p
