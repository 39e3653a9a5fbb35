-- Counting what is kept of a list.
use mathlib.Core.Path.{◌≡◌, refl}
use mathlib.Core.Bool.{Bool, true, false, cond, ◌&&◌}
use mathlib.Core.List.{List, ◌∷◌}
use Prim.Native.Nat.{◌+◌}
use native.Mathlib.Omega.{arith}
use Rattle.tallies.specs.Turn.{keep, how_many}

module _ {A : Type 0} (p q : A → Bool) where
  -- one element more
  pub kept_more : (x : A) (xs : List A) → how_many p (keep q (x ∷ xs)) ≡ cond (q x && p x) 1 0 + how_many p (keep q xs)
  unfolding keep how_many
  kept_more x xs = go (q x)
    where
      go : (b : Bool) → how_many p (cond b (x ∷ keep q xs) (keep q xs)) ≡ cond (b && p x) 1 0 + how_many p (keep q xs)
      go true = refl
      go false = omega arith
