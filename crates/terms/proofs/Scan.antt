-- Scans: one step of a list read from its end, a test of the numbers below a bound from the highest down, and what a part that fails says of the whole.
use mathlib.Core.Path.{◌≡◌, refl}
use mathlib.Core.Bool.{Bool, true, false, ◌&&◌, and-false}
use mathlib.Core.List.{List, [], ◌∷◌}
use Prim.Native.Nat.{ℕ, zero, suc, ◌-◌, ◌≤◌, ◌<◌}
use native.Mathlib.Omega.{arith}
use lib.ListN.{length, get_or, drop}
use lib.Seq.{drop-cons}
use Rattle.terms.specs.Test.{all, every}
use Rattle.terms.specs.Tree.{Wholes, exactly, lacking, taking, wholes}

-- the part that starts one place before i
pub drop-back : {A : Type 0} (xs : List A) (i : ℕ) (d : A) → 0 < i → i ≤ length xs → drop (i - 1) xs ≡ get_or xs (i - 1) d ∷ drop i xs
drop-back xs i d h k =
    let e : suc (i - 1) ≡ i = omega arith in
    rw (drop-cons xs (i - 1) d (omega arith), e)

-- a test of the numbers below n is that of the highest and that of those below it
every_back : (n : ℕ) (p : ℕ → Bool) → 0 < n → every n p ≡ p (n - 1) && every (n - 1) p
unfolding every
every_back zero p h = absurd (omega arith)
every_back (suc n) p h =
    let e : suc n - 1 ≡ n = omega arith in
    rw e

-- a test of the numbers below n, from the highest down, of which those below m are left
module _ (n m : ℕ) (p : ℕ → Bool) (left : every n p ≡ every m p) where
  pub every_fails : 0 < m → p (m - 1) ≡ false → every n p ≡ false
  every_fails h e = rw (left, every_back m p h, e)

  pub every-passes : 0 < m → p (m - 1) ≡ true → every n p ≡ every (m - 1) p
  every-passes h e = rw (left, every_back m p h, e)

  pub every-done : m ≤ 0 → every n p ≡ true
  unfolding every
  every-done h =
      let e : m ≡ 0 = omega arith in
      rw (left, e)

-- an element behind place i fails the test, so not all pass it
pub all_part : {A : Type 0} (p : A → Bool) (xs : List A) (i : ℕ) → all p (drop i xs) ≡ false → all p xs ≡ false
unfolding all
all_part p xs zero e = e
all_part p [] (suc i) e = e
all_part p (x ∷ xs) (suc i) e = rw (all_part p xs i e, and-false)

-- a symbol behind place i lacks children, so the whole lacks them
pub wholes_part : (rank : ℕ → ℕ) (xs : List ℕ) (i : ℕ) → wholes rank (drop i xs) ≡ lacking → wholes rank xs ≡ lacking
unfolding wholes taking
wholes_part rank xs zero e = e
wholes_part rank [] (suc i) e = e
wholes_part rank (x ∷ xs) (suc i) e = rw (wholes_part rank xs i e)

-- what stands behind a place is whole
pub some-whole : (rank : ℕ → ℕ) (xs : List ℕ) (i n : ℕ) → wholes rank xs ≡ exactly n → (m : ℕ) × (wholes rank (drop i xs) ≡ exactly m)
some-whole rank xs i n e = go (wholes rank (drop i xs)) refl
  where
    go : (w : Wholes) → wholes rank (drop i xs) ≡ w → (m : ℕ) × (w ≡ exactly m)
    go (exactly m) t = (m, refl)
    go lacking t = absurd (let y = wholes_part rank xs i t in let z : ◌≡◌ {A = ℕ} 0 1 = cc in omega arith)

-- two tests of the numbers below n that agree
pub every_cong : (n : ℕ) (p q : ℕ → Bool) → ((k : ℕ) → p k ≡ q k) → every n p ≡ every n q
unfolding every
every_cong zero p q e = refl
every_cong (suc n) p q e = rw (e n, every_cong n p q e)
