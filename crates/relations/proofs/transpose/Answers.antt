use mathlib.Core.Path.{◌≡◌, ap, subst, ◌∙◌}
use mathlib.Core.Bool.{◌&&◌}
use Prim.Native.Nat.{ℕ, ◌*◌, ◌/◌, ◌^◌, ◌<◌}
use native.Mathlib.Omega.{arith}
use lib.Dec.{T}
use Rattle.terms.specs.Test.{some}
use Rattle.terms.specs.Automaton.{has}
use Rattle.terms.specs.Relation.{matrix, related}
use Rattle.terms.proofs.Test.{same_test, both, both_0, both_1, some_in, some_out}
use Rattle.terms.proofs.Automaton.Bits.{power_has, power_only}
use Rattle.terms.proofs.Automaton.Relation.{matrix_cong}
use Rattle.relations.proofs.Laws.{one_shl}
use Rattle.relations.proofs.Matrix.{row_has, union_none, union_more}
use Rattle.relations.proofs.transpose.Goals as goal
use Rattle.relations.proofs.transpose.Invariants.{column}

turned : (x a b : ℕ) → b < 8 → some 8 (column x a b) ≡ related x b a
turned x a b hb = same_test (some 8 (column x a b)) (related x b a) there back
  where
    there : T (some 8 (column x a b)) → T (related x b a)
    there h =
        let (k, hk, t) = some_out 8 (column x a b) h in
        let e : k ≡ b = power_only k b (both_1 (has (x / 2 ^ (8 * k)) a) (has (2 ^ k) b) t) in
        subst (λ (n : ℕ). T (related x n a)) e (rw (row_has x k a) at (both_0 (has (x / 2 ^ (8 * k)) a) (has (2 ^ k) b) t))

    back : T (related x b a) → T (some 8 (column x a b))
    back h = some_in 8 (column x a b) b hb (both (has (x / 2 ^ (8 * b)) a) (has (2 ^ b) b) (rw (row_has x b a) h) (power_has b))

pub loop-p-init : goal.loop-p-init
loop-p-init c = (omega arith, union_none (column c.args.relation))

pub loop-p-preserved : goal.loop-p-preserved
loop-p-preserved c =
    let p : ℕ = c.loop-p.p in
    let x : ℕ = c.args.relation in
    let bit = one_shl p (omega arith) in (
      omega arith,
      union_more (column x) c.pairs-columns.result c.loop-p.columns p
          (c.pairs-columns.ensures ∙ ap (λ (to : ℕ). matrix (λ a b. has (x / 2 ^ (8 * p)) a && has to b)) bit) c.loop-p.invariant.1,
    )

pub returns : goal.returns
returns c =
    let x : ℕ = c.args.relation in
    let e : c.loop-p.p ≡ 8 = omega arith in
    c.loop-p.invariant.1 ∙ ap (λ (n : ℕ). matrix (λ a b. some n (column x a b))) e
    ∙ matrix_cong (λ a b. some 8 (column x a b)) (λ a b. related x b a) (λ a b ha hb. turned x a b hb)
