-- What holds of each node of a list.
use mathlib.Core.Path.{◌≡◌, refl, ap₂}
use mathlib.Core.Bool.{Bool}
use mathlib.Core.List.{List, [], ◌∷◌, ◌++◌, map}
use Prim.Native.Nat.{ℕ, ◌≤◌}
use native.Mathlib.Omega.{arith}
use lib.Dec.{T}
use Rattle.terms.specs.Test.{all}
use Rattle.terms.specs.Grammar.{Name, name, sum_over}
use Rattle.terms.proofs.Test.{both, both_0, both_1}

abbrev pub Each : (ℕ → Type 0) → List ℕ → Type 0
Each P [] = Unit {0}
Each P (m ∷ ms) = P m × Each P ms

pub each_map : (P Q : ℕ → Type 0) → ((m : ℕ) → P m → Q m) → (ms : List ℕ) → Each P ms → Each Q ms
each_map P Q f [] h = tt
each_map P Q f (m ∷ ms) h = (f m h.0, each_map P Q f ms h.1)

pub each_both : (P Q : ℕ → Type 0) (ms : List ℕ) → Each P ms → Each Q ms → Each (λ m. P m × Q m) ms
each_both P Q [] h k = tt
each_both P Q (m ∷ ms) h k = ((h.0, k.0), each_both P Q ms h.1 k.1)

pub each_first : (P : ℕ → Type 0) (ms ns : List ℕ) → Each P (ms ++ ns) → Each P ms
each_first P [] ns h = tt
each_first P (m ∷ ms) ns h = (h.0, each_first P ms ns h.1)

pub each-rest : (P : ℕ → Type 0) (ms ns : List ℕ) → Each P (ms ++ ns) → Each P ns
each-rest P [] ns h = h
each-rest P (m ∷ ms) ns h = each-rest P ms ns h.1

pub each_of_all : (p : ℕ → Bool) (ms : List ℕ) → T (all p ms) → Each (λ m. T (p m)) ms
unfolding all
each_of_all p [] h = tt
each_of_all p (m ∷ ms) h = (both_0 (p m) (all p ms) h, each_of_all p ms (both_1 (p m) (all p ms) h))

pub all_of_each : (p : ℕ → Bool) (ms : List ℕ) → Each (λ m. T (p m)) ms → T (all p ms)
unfolding all
all_of_each p [] h = tt
all_of_each p (m ∷ ms) h = both (p m) (all p ms) h.0 (all_of_each p ms h.1)

pub each_image : (P Q : ℕ → Type 0) (f : ℕ → ℕ) → ((m : ℕ) → P m → Q (f m)) → (ms : List ℕ) → Each P ms → Each Q (map f ms)
each_image P Q f g [] h = tt
each_image P Q f g (m ∷ ms) h = (g m h.0, each_image P Q f g ms h.1)

pub map_each : (f g : ℕ → ℕ) (ms : List ℕ) → Each (λ m. f m ≡ g m) ms → map f ms ≡ map g ms
map_each f g [] e = refl
map_each f g (m ∷ ms) e = ap₂ (λ n ns. n ∷ ns) e.0 (map_each f g ms e.1)

-- sums

pub sum_over_image_le : (g h : Name → ℕ) (f : ℕ → ℕ) → ((m : ℕ) → g (name (f m)) ≤ h (name m)) → (ms : List ℕ) → sum_over g (map f ms) ≤ sum_over h ms
sum_over_image_le g h f le [] = omega arith
sum_over_image_le g h f le (m ∷ ms) = omega (arith, le m, sum_over_image_le g h f le ms)

pub sum_over_image : {P : ℕ → Type 0} (g h : Name → ℕ) (f : ℕ → ℕ) → ((m : ℕ) → P m → g (name (f m)) ≡ h (name m)) → (ms : List ℕ) → Each P ms
    → sum_over g (map f ms) ≡ sum_over h ms
sum_over_image g h f eq [] e = refl
sum_over_image g h f eq (m ∷ ms) e = omega (arith, eq m e.0, sum_over_image g h f eq ms e.1)
