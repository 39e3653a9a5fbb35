-- A set of states, one to a lane, times a set of states: the second set in each lane of the first.
use mathlib.Core.Path.{◌≡◌, ap, ap₂, sym, subst, ◌∙◌}
use mathlib.Core.Bool.{Bool, ◌&&◌}
use mathlib.Core.List.{List}
use Prim.Native.Nat.{ℕ, zero, suc, ◌+◌, ◌*◌, ◌/◌, ◌%◌, ◌^◌, ◌<◌}
use native.Mathlib.Nat.{zero-add, zero-mul, one-mul, mul-one, zero-div, div-one, add-mul, mul_assoc, mul_comm, pow-suc}
use native.Mathlib.Numerals.{one-add}
use native.Mathlib.Omega.{arith}
use lib.Dec.{T, eqb, eqb→eq}
use lib.ListN.{get_or}
use lib.Arith.{digits_mod, digits_div, digits_lt}
use Rattle.terms.specs.Test.{tabulate}
use Rattle.terms.specs.Automaton.{bit, has}
use Rattle.terms.specs.Relation.{matrix, related}
use Rattle.terms.proofs.Test.{same_test, equal}
use Rattle.terms.proofs.Automaton.Bits.{power_has, power_only}
use Rattle.terms.proofs.Automaton.Relation.{matrix_cong}
use Rattle.relations.specs.Spread.{spread}
use Rattle.relations.proofs.Laws.{has_shr, has-low}
use Rattle.terms.proofs.Tabulate.{get_d_tabulate}
use Rattle.relations.proofs.Matrix.{matrix-bits}

-- the n low bits of s, one to a lane of eight bits
unfoldable pub lanes : ℕ → ℕ → ℕ
lanes zero s = 0
lanes (suc n) s = s % 2 + 256 * lanes n (s / 2)

-- a digit of 0 or 1, times a set
times_lt : (d row : ℕ) → d < 2 → row < 256 → d * row < 256
times_lt zero row h l = rw zero-mul (omega arith)
times_lt (suc zero) row h l = rw one-mul l
times_lt (suc (suc d)) row h l = absurd (omega arith)

times-has : (d row q : ℕ) → d < 2 → has (d * row) q ≡ eqb d 1 && has row q
unfolding has bit
times-has zero row q h = ap (λ (z : ℕ). has z q) (zero-mul row) ∙ ap (λ (z : ℕ). eqb (z % 2) 1) (zero-div (2 ^ q))
times-has (suc zero) row q h = ap (λ (z : ℕ). has z q) (one-mul row)
times-has (suc (suc d)) row q h = absurd (omega arith)

lowest_bit : (s : ℕ) → eqb (s % 2) 1 ≡ has s 0
unfolding has bit
lowest_bit s = ap (λ (z : ℕ). eqb (z % 2) 1) (sym (div-one s))

module _ (row : ℕ) (hr : row < 256) where
  -- the lowest lane, and the lanes above it
  parts : (n s : ℕ) → lanes (suc n) s * row ≡ lanes n (s / 2) * row * 256 + s % 2 * row
  unfolding lanes
  parts n s =
      add-mul (s % 2) (256 * lanes n (s / 2)) row
      ∙ ap (λ (z : ℕ). s % 2 * row + z) (mul_assoc 256 (lanes n (s / 2)) row ∙ mul_comm 256 (lanes n (s / 2) * row)) ∙ omega arith

  lowest : (s : ℕ) → s % 2 * row < 256
  lowest s = times_lt (s % 2) row (omega arith) hr

  lanes_lt : (n s : ℕ) → lanes n s * row < 256 ^ n
  unfolding lanes
  lanes_lt zero s = rw (zero-mul row) (omega arith)
  lanes_lt (suc n) s = rw (parts n s, pow-suc 256 n) (digits_lt (lanes_lt n (s / 2)) (lowest s))

  lanes_has : (n s p q : ℕ) → p < n → q < 8 → has (lanes n s * row) (8 * p + q) ≡ has s p && has row q
  lanes_has zero s p q hp hq = absurd (omega arith)
  lanes_has (suc n) s zero q hp hq =
      let x : ℕ = lanes (suc n) s * row in
      let low : x % 256 ≡ s % 2 * row = ap (λ (z : ℕ). z % 256) (parts n s) ∙ digits_mod (lanes n (s / 2) * row) (lowest s) in
      ap (has x) (zero-add q) ∙ sym (has-low x 8 q hq) ∙ ap (λ (z : ℕ). has z q) low ∙ times-has (s % 2) row q (omega arith)
      ∙ ap (λ (t : Bool). t && has row q) (lowest_bit s)
  lanes_has (suc n) s (suc p) q hp hq =
      let x : ℕ = lanes (suc n) s * row in
      let i : 8 * suc p + q ≡ 8 + (8 * p + q) = omega arith in
      let rest : x / 256 ≡ lanes n (s / 2) * row = ap (λ (z : ℕ). z / 256) (parts n s) ∙ digits_div (lanes n (s / 2) * row) (lowest s) in
      ap (has x) i ∙ sym (has_shr x 8 (8 * p + q)) ∙ ap (λ (z : ℕ). has z (8 * p + q)) rest
      ∙ lanes_has n (s / 2) p q (omega arith) hq ∙ ap (λ (t : Bool). t && has row q) (has_shr s 1 p ∙ ap (has s) (one-add p))

  -- every state of a set to every state of another
  lanes_times : (s : ℕ) → lanes 8 s * row ≡ matrix (λ p q. has s p && has row q)
  unfolding related
  lanes_times s = matrix-bits (lanes 8 s * row) (λ p q. has s p && has row q) (lanes_lt 8 s) (λ p q hp hq. lanes_has 8 s p q hp hq)

one_has : (q : ℕ) → has 1 q ≡ eqb q 0
one_has q =
    same_test (has 1 q) (eqb q 0) (λ h. equal q 0 (sym (power_only 0 q h))) (λ h. subst (λ (n : ℕ). T (has 1 n)) (sym (eqb→eq q 0 h)) (power_has 0))

lanes_spread : (s : ℕ) → lanes 8 s ≡ spread s
unfolding spread matrix
lanes_spread s =
    sym (mul-one (lanes 8 s)) ∙ lanes_times 1 (omega arith) s
    ∙ matrix_cong (λ p q. has s p && has 1 q) (λ p q. has s p && eqb q 0) (λ p q hp hq. ap (λ (t : Bool). has s p && t) (one_has q))

-- the low eight bits of two numbers, the first spread
pub spread-times : (s t : ℕ) → spread (s % 256) * (t % 256) ≡ matrix (λ p q. has s p && has t q)
spread-times s t =
    ap (λ (z : ℕ). z * (t % 256)) (sym (lanes_spread (s % 256))) ∙ lanes_times (t % 256) (omega arith) (s % 256)
    ∙ matrix_cong (λ p q. has (s % 256) p && has (t % 256) q) (λ p q. has s p && has t q)
    (λ p q hp hq. ap₂ (λ (a b : Bool). a && b) (has-low s 8 p hp) (has-low t 8 q hq))

-- a table that is computed to be right has the spread of each set of eight states
pub all-spreads : (table : List ℕ) → table ≡ tabulate 256 (lanes 8) → (s : ℕ) → s < 256 → get_or table s 0 ≡ spread s
all-spreads table e s h = ap (λ (l : List ℕ). get_or l s 0) e ∙ get_d_tabulate 256 (lanes 8) 0 s h ∙ lanes_spread s
