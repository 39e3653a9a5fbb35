-- The lanes of a relation: their bits and their union, and a test noted in each lane by a 1.
use mathlib.Core.Path.{◌≡◌, refl, ap, ap₂, sym, ◌∙◌}
use mathlib.Core.Bool.{Bool, true, false, cond, ◌&&◌, and-false, and_comm}
use Prim.Native.Nat.{ℕ, zero, suc, ◌+◌, ◌*◌, ◌/◌, ◌%◌, ◌^◌, ◌<◌}
use native.Mathlib.Nat.{zero-div, mod-eq_of_lt}
use native.Mathlib.Omega.{arith}
use lib.Dec.{eqb}
use lib.Pow.{pow-lt}
use lib.Bits.{bit_and, bit_or, or_shr, or_mod}
use borrow.Author.Tests.{ne_eqb}
use Rattle.terms.specs.Automaton.{has, set_of}
use Rattle.terms.specs.Relation.{matrix, related}
use Rattle.terms.proofs.Automaton.Bits.{has-set, set-whole}
use Rattle.terms.proofs.Automaton.Relation.{matrix_lt, matrix-has, matrix_cong}
use Rattle.relations.specs.Spread.{spread}
use Rattle.relations.proofs.Laws.{has_shr, has-low}
use Rattle.relations.proofs.Matrix.{set-bits, and_matrix, row_has}
use Rattle.relations.proofs.Lanes.{spread-times}
use Rattle.blackboard_terms.specs.Step.{lane}

lane_has : (x p q : ℕ) → q < 8 → has (lane x p) q ≡ related x p q
unfolding lane
lane_has x p q h = has-low (x / 2 ^ (8 * p)) 8 q h ∙ row_has x p q

pub lane-none : (p : ℕ) → lane 0 p ≡ 0
unfolding lane
lane-none p = rw (zero-div (2 ^ (8 * p)))

pub lane_or : (x y p : ℕ) → lane (bit_or x y) p ≡ bit_or (lane x p) (lane y p)
unfolding lane
lane_or x y p = ap (λ (z : ℕ). z % 256) (or_shr x y (8 * p)) ∙ or_mod (x / 2 ^ (8 * p)) (y / 2 ^ (8 * p)) 8

lane-matrix : (f : ℕ → ℕ → Bool) (p : ℕ) → p < 8 → lane (matrix f) p ≡ set_of 8 (f p)
unfolding lane
lane-matrix f p hp = set-bits 8 (lane (matrix f) p) (f p) (omega arith) (λ q hq. lane_has (matrix f) p q hq ∙ matrix-has f p q hp hq)

-- a 1 in each lane that passes the test
abbrev pub ones : (ℕ → Bool) → ℕ
ones g = matrix (λ p q. eqb q 0 && g p)

-- of the lanes that pass the test, those whose set has the state s
pub ones_and : (x s : ℕ) (g : ℕ → Bool) → s < 8 → bit_and (x / 2 ^ s) (ones g) ≡ ones (λ p. has (lane x p) s && g p)
unfolding related
ones_and x s g hs =
    and_matrix (x / 2 ^ s) (λ p q. eqb q 0 && g p)
    ∙ matrix_cong (λ p q. related (x / 2 ^ s) p q && (eqb q 0 && g p)) (λ p q. eqb q 0 && (has (lane x p) s && g p)) (λ p q hp hq. bit p q)
  where
    bit : (p q : ℕ) → related (x / 2 ^ s) p q && (eqb q 0 && g p) ≡ eqb q 0 && (has (lane x p) s && g p)
    bit p zero = ap (λ (b : Bool). b && g p) (has_shr x s (8 * p + 0) ∙ ap (has x) (omega arith) ∙ sym (lane_has x p s hs))
    bit p (suc q) = rw (ne_eqb (suc q) 0 (λ e. omega arith)) (and-false (related (x / 2 ^ s) p (suc q)))

-- the 1 of each lane, moved to the state t of that lane
pub ones_shl : (g : ℕ → Bool) (t p : ℕ) → t < 8 → p < 8 → lane (ones g * 2 ^ t % 2 ^ 64) p ≡ cond (g p) (2 ^ t) 0
unfolding spread matrix set_of
ones_shl g t p ht hp =
    let s = set_of 8 g in
    let as-spread : ones g ≡ spread (s % 256) =
    matrix_cong (λ p q. eqb q 0 && g p) (λ p q. has (s % 256) p && eqb q 0)
    (λ p q hp hq. and_comm (eqb q 0) (g p) ∙ ap (λ (b : Bool). b && eqb q 0) (sym (has-low s 8 p hp ∙ has-set 8 g p hp))) in
    let moved : ones g * 2 ^ t ≡ matrix (λ p q. has s p && has (2 ^ t) q) = ap₂ (λ (x y : ℕ). x * y) as-spread (sym (mod-eq_of_lt small)) ∙ spread-times s (2 ^ t) in
    ap (λ (x : ℕ). lane (x % 2 ^ 64) p) moved ∙ ap (λ (x : ℕ). lane x p) (mod-eq_of_lt (matrix_lt (λ p q. has s p && has (2 ^ t) q)))
    ∙ lane-matrix (λ p q. has s p && has (2 ^ t) q) p hp ∙ ap (λ (b : Bool). set_of 8 (λ q. b && has (2 ^ t) q)) (has-set 8 g p hp) ∙ go (g p)
  where
    small : 2 ^ t < 256
    small = pow-lt {j = 8} ht

    go : (b : Bool) → set_of 8 (λ q. b && has (2 ^ t) q) ≡ cond b (2 ^ t) 0
    go true = set-whole 8 (2 ^ t) small
    go false = refl
