-- Sums over the candidates.
use mathlib.Core.Path.{◌≡◌, refl, ◌∙◌}
use mathlib.Core.Bool.{Bool, cond, ◌&&◌}
use Prim.Native.Nat.{ℕ, zero, suc, ◌+◌, ◌≤◌, ◌<◌}
use native.Mathlib.Omega.{arith}
use native.Mathlib.Decide.{ℕ_discrete}
use borrow.Author.Tests.{eq-eqb, ne_eqb}
use lib.Dec.{eqb}
use Rattle.tallies.specs.Turn.{sum_below}

pub sum_zero : (n : ℕ) (f : ℕ → ℕ) → ((c : ℕ) → c < n → f c ≡ 0) → sum_below n f ≡ 0
unfolding sum_below
sum_zero zero f h = refl
sum_zero (suc n) f h = omega (arith, sum_zero n f (λ c l. h c (omega arith)), h n (omega arith))

sum_same : (n : ℕ) (f g : ℕ → ℕ) → ((c : ℕ) → c < n → g c ≡ f c) → sum_below n g ≡ sum_below n f
unfolding sum_below
sum_same zero f g h = refl
sum_same (suc n) f g h = omega (arith, sum_same n f g (λ c l. h c (omega arith)), h n (omega arith))

-- one of the numbers goes up
pub sum-up : (n : ℕ) (f g : ℕ → ℕ) (b : ℕ) (z : Bool) → b < n → ((c : ℕ) → c < n → g c ≡ f c + cond (eqb b c && z) 1 0) → sum_below n g ≡ sum_below n f + cond z 1 0
unfolding sum_below
sum-up zero f g b z l h = absurd (omega arith)
sum-up (suc n) f g b z l h = go (ℕ_discrete b n) (λ k. sum-up n f g b z k (λ c m. h c (omega arith)))
  where
    go : Dec (b ≡ n) → (b < n → sum_below n g ≡ sum_below n f + cond z 1 0) → sum_below n g + g n ≡ sum_below n f + f n + cond z 1 0
    go (yes e) ih =
        omega (
          arith,
          sum_same n f g (λ c m. (rw (ne_eqb b c (λ q. omega arith)) at (h c (omega arith))) ∙ omega arith),
          rw (eq-eqb b n e) at (h n (omega arith)),
        )
    go (no q) ih = omega (arith, ih (omega arith), rw (ne_eqb b n q) at (h n (omega arith)))

pub sum_least : (n : ℕ) (f : ℕ → ℕ) (c : ℕ) → c < n → f c ≤ sum_below n f
unfolding sum_below
sum_least zero f c h = absurd (omega arith)
sum_least (suc n) f c h = go (ℕ_discrete c n) (λ l. sum_least n f c l)
  where
    go : Dec (c ≡ n) → (c < n → f c ≤ sum_below n f) → f c ≤ sum_below n f + f n
    go (yes e) ih = rw e (omega arith)
    go (no q) ih = omega (arith, ih (omega arith))
