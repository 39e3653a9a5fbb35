-- Lists by their places.
use mathlib.Core.Path.{◌≡◌, refl, sym, ap, ◌∙◌}
use mathlib.Core.List.{List, [], ◌∷◌, ◌++◌}
use Prim.Native.Nat.{ℕ, zero, suc, ◌+◌, ◌-◌, ◌≤◌, ◌<◌}
use native.Mathlib.Nat.{suc-add, suc-sub-suc}
use native.Mathlib.Numerals.{one-add}
use native.Mathlib.Omega.{arith}
use lib.ListN.{length, get_or, take}
use lib.Seq.{ext_get_or}
use Rattle.terms.specs.Test.{tabulate}

pub length-tabulate : {A : Type 0} (n : ℕ) (f : ℕ → A) → length (tabulate n f) ≡ n
unfolding tabulate
length-tabulate zero f = refl
length-tabulate (suc n) f = ap suc (length-tabulate n (λ i. f (suc i)))

pub get_d_tabulate : {A : Type 0} (n : ℕ) (f : ℕ → A) (d : A) (i : ℕ) → i < n → get_or (tabulate n f) i d ≡ f i
unfolding tabulate
get_d_tabulate zero f d i h = absurd (omega arith)
get_d_tabulate (suc n) f d zero h = refl
get_d_tabulate (suc n) f d (suc i) h = get_d_tabulate n (λ j. f (suc j)) d i (omega arith)

pub take-tabulate : {A : Type 0} (n m : ℕ) (f : ℕ → A) → n ≤ m → take n (tabulate m f) ≡ tabulate n f
unfolding tabulate
take-tabulate zero m f h = refl
take-tabulate (suc n) zero f h = absurd (omega arith)
take-tabulate {A} (suc n) (suc m) f h = ap (λ (xs : List A). f 0 ∷ xs) (take-tabulate n m (λ i. f (suc i)) (omega arith))

-- before a place, there, and behind it
pub tabulate_at : {A : Type 0} (g n : ℕ) (f : ℕ → A) → g < n → tabulate n f ≡ tabulate g f ++ (f g ∷ tabulate (n - suc g) (λ j. f (suc g + j)))
unfolding tabulate
tabulate_at g zero f h = absurd (omega arith)
tabulate_at zero (suc n) f h =
    let e : suc n - 1 ≡ n = omega arith in
    simp (e, one-add)
tabulate_at {A} (suc g) (suc n) f h =
    ap (λ (xs : List A). f 0 ∷ xs) (tabulate_at g n (λ i. f (suc i)) (omega arith) ∙ simp (suc-sub-suc, suc-add))

-- one place more
pub tabulate-more : {A : Type 0} (i : ℕ) (f : ℕ → A) → tabulate (suc i) f ≡ tabulate i f ++ (f i ∷ [])
unfolding tabulate
tabulate-more i f =
    let none : suc i - suc i ≡ 0 = omega arith in
    tabulate_at i (suc i) f (omega arith) ∙ rw none

-- a list by its places
pub tabulated : {A : Type 0} (n : ℕ) (f : ℕ → A) (d : A) (xs : List A) → length xs ≡ n → ((j : ℕ) → j < n → f j ≡ get_or xs j d) → tabulate n f ≡ xs
tabulated n f d xs e h =
    ext_get_or d (tabulate n f) xs (length-tabulate n f ∙ sym e)
    (λ j l. let m : j < n = omega (arith, length-tabulate n f) in get_d_tabulate n f d j m ∙ h j m)
