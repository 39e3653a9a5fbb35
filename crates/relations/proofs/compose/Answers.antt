use mathlib.Core.Path.{◌≡◌, ap, ap₂, ◌∙◌}
use mathlib.Core.Bool.{Bool, ◌&&◌}
use Prim.Native.Nat.{ℕ}
use native.Mathlib.Omega.{arith}
use Rattle.terms.specs.Test.{some}
use Rattle.terms.specs.Relation.{matrix, related, compose_bits}
use Rattle.terms.proofs.Test.{some_cong}
use Rattle.terms.proofs.Automaton.Relation.{matrix-has, matrix_cong}
use Rattle.relations.proofs.Matrix.{row_has, union_none, union_more}
use Rattle.relations.proofs.compose.Goals as goal
use Rattle.relations.proofs.compose.Invariants.{through}

composed-is : (outer inner columns : ℕ) → columns ≡ matrix (λ m p. related inner p m) → matrix (λ p q. some 8 (through columns outer p q)) ≡ compose_bits outer inner
unfolding compose_bits
composed-is outer inner columns e =
    matrix_cong (λ p q. some 8 (through columns outer p q)) (λ p q. some 8 (λ m. related inner p m && related outer m q))
    (λ p q hp hq.
    some_cong 8 (through columns outer p q) (λ m. related inner p m && related outer m q)
    (λ m hm.
    ap₂ (λ (s t : Bool). s && t)
    (row_has columns m p ∙ ap (λ (x : ℕ). related x m p) e ∙ matrix-has (λ k l. related inner l k) m p hm hp) (row_has outer m q)))

pub loop-m-init : goal.loop-m-init
loop-m-init c = (omega arith, union_none (through c.transpose-columns.result c.args.outer))

pub loop-m-preserved : goal.loop-m-preserved
loop-m-preserved c =
    let l = c.loop-m in (
      omega arith,
      union_more (through c.transpose-columns.result c.args.outer) c.pairs-composed.result l.composed l.m c.pairs-composed.ensures l.invariant.1,
    )

pub returns : goal.returns
returns c =
    let e : c.loop-m.m ≡ 8 = omega arith in
    c.loop-m.invariant.1 ∙ ap (λ (n : ℕ). matrix (λ p q. some n (through c.transpose-columns.result c.args.outer p q))) e
    ∙ composed-is c.args.outer c.args.inner c.transpose-columns.result c.transpose-columns.ensures
