-- Relations by their lanes: one lane more, the sets of a lane, and state 0 alone in each.
use mathlib.Core.Path.{◌≡◌, refl, ap, sym, ◌∙◌}
use mathlib.Core.List.{List}
use Prim.Native.Nat.{ℕ, zero, suc, ◌+◌, ◌-◌, ◌*◌, ◌/◌, ◌%◌, ◌^◌, ◌<◌}
use native.Mathlib.Nat.{zero-div, div-one}
use Rattle.std.specs.Int.{w64, to_le_bytes}
use native.Mathlib.Omega.{arith}
use borrow.Author.Count.{below_more}
use lib.Arith.{digits_lt}
use lib.Bits.{bit_or, or_shifted}
use lib.Dec.{eqb, eqb→eq}
use lib.ListN.{get_or, get_or-map}
use lib.Pow.{pow-add, shl_exact, high, low, field, mod-mod-pow}
use Rattle.terms.specs.Test.{every}
use Rattle.terms.specs.Automaton.{has}
use Rattle.terms.specs.Relation.{matrix}
use Rattle.terms.proofs.Test.{every_at}
use Rattle.relations.proofs.Laws.{has-low}
use Rattle.relations.proofs.Matrix.{matrix-bits, row_has}
use Rattle.blackboard_terms.specs.Step.{lane, lanes_at, LanesAre}

-- the n lanes of x are f 0, f 1 and so on, and there is nothing above them
abbrev pub Filled : (ℕ → ℕ) → ℕ → ℕ → Type 0
Filled f n x = (x < 2 ^ (8 * n)) × LanesAre n x f

-- a lane below n does not see what stands from lane n on
lower-lane : (y x n k : ℕ) → x < 2 ^ (8 * n) → k < n → lane (y * 2 ^ (8 * n) + x) k ≡ lane x k
unfolding lane
lower-lane y x n k l h =
    let z : ℕ = y * 2 ^ (8 * n) + x in
    let e : 8 * n - (8 + 8 * k) + (8 + 8 * k) ≡ 8 * n = omega arith in
    let same : z % 2 ^ (8 + 8 * k) ≡ x % 2 ^ (8 + 8 * k) = sym (rw e at (mod-mod-pow z (8 * n - (8 + 8 * k)) (8 + 8 * k))) ∙ ap (λ (w : ℕ). w % 2 ^ (8 + 8 * k)) (low y (8 * n) l) in
    sym (field z 8 (8 * k)) ∙ ap (λ (w : ℕ). w / 2 ^ (8 * k)) same ∙ field x 8 (8 * k)

-- one lane more
pub filled_more : (f : ℕ → ℕ) (n x y : ℕ) → n < 8 → f n < 256 → y ≡ f n → Filled f n x → Filled f (n + 1) (bit_or (y * 2 ^ (8 * n) % 2 ^ 64) x)
unfolding lane
filled_more f n x y h b e (l, lanes) =
    let next : 8 * (n + 1) ≡ 8 + 8 * n = omega arith in
    let small : y < 256 = omega arith in
    rw (shl_exact 8 (8 * n) 64 small (omega arith), or_shifted y (8 * n) x l) (
      rw (next, pow-add 2 8 (8 * n)) (digits_lt small l),
      below_more _ n (λ k m. lower-lane y x n k l m ∙ lanes k m) (rw (high y (8 * n) l) (omega arith)),
    )

-- a relation by its eight lanes
pub filled-matrix : (f : ℕ → ℕ) (x : ℕ) → Filled f 8 x → x ≡ matrix (λ p q. has (f p) q)
unfolding lane
filled-matrix f x (l, lanes) =
    matrix-bits x (λ p q. has (f p) q) l
    (λ p q hp hq. sym (row_has x p q) ∙ sym (has-low (x / 2 ^ (8 * p)) 8 q hq) ∙ ap (λ (y : ℕ). has y q) (lanes p hp))

-- the set at a place of a list, in a lane
pub lane_at : (p : ℕ) (xs : List ℕ) (j : ℕ) → get_or (lanes_at p xs) j 0 ≡ lane (get_or xs j 0) p
unfolding lane
lane_at p xs j =
    let none : 0 / 2 ^ (8 * p) % 256 ≡ 0 = rw (zero-div (2 ^ (8 * p))) in
    rw none at (get_or-map (λ x. lane x p) xs j 0)

pub lane_has : (p : ℕ) (xs : List ℕ) (j s : ℕ) → s < 8 → has (get_or xs j 0 / 2 ^ (8 * p)) s ≡ has (get_or (lanes_at p xs) j 0) s
unfolding lane
lane_has p xs j s h = sym (ap (λ (x : ℕ). has x s) (lane_at p xs j) ∙ has-low (get_or xs j 0 / 2 ^ (8 * p)) 8 s h)

-- state 0 alone, in each lane
pub lane_zero : (p : ℕ) → p < 8 → lane 0x0101_0101_0101_0101 p ≡ 1
unfolding lane every
lane_zero p h = eqb→eq _ _ (every_at 8 (λ k. eqb (lane 0x0101_0101_0101_0101 k) 1) tt p h)

-- the bytes of a number, the low one first, are its lanes
pub bytes-lane : (x p : ℕ) → p < 8 → get_or (to_le_bytes w64 x) p 0 ≡ lane x p
unfolding lane
bytes-lane x zero h = ap (λ (y : ℕ). y % 256) (sym (div-one x))
bytes-lane x (suc zero) h = refl
bytes-lane x (suc (suc zero)) h = refl
bytes-lane x (suc (suc (suc zero))) h = refl
bytes-lane x (suc (suc (suc (suc zero)))) h = refl
bytes-lane x (suc (suc (suc (suc (suc zero))))) h = refl
bytes-lane x (suc (suc (suc (suc (suc (suc zero)))))) h = refl
bytes-lane x (suc (suc (suc (suc (suc (suc (suc zero))))))) h = refl
bytes-lane x (suc (suc (suc (suc (suc (suc (suc (suc p)))))))) h = absurd (omega arith)
