-- A part of a slice from a place to the end, and the slice with another part there.
use mathlib.Core.Path.{◌≡◌, ap}
use mathlib.Core.List.{List, ◌++◌, append-nil}
use Prim.Native.Nat.{ℕ, ◌-◌, ◌≤◌}
use native.Mathlib.Omega.{arith}
use lib.ListN.{length, take, drop, length-drop, drop_of_length-le}
use lib.Seq.{length-take-le}

module _ (at : ℕ) (xs : List ℕ) where
  pub part_long : length (take (length xs - at) (drop at xs)) ≡ length xs - at
  part_long = length-take-le (length xs - at) (drop at xs) (omega (arith, length-drop at xs))

  -- nothing lies behind the part
  pub nothing-behind : (part : List ℕ) → take at xs ++ (part ++ drop (length xs - at) (drop at xs)) ≡ take at xs ++ part
  nothing-behind part =
      let short : length (drop at xs) ≤ length xs - at = omega (arith, length-drop at xs) in
      ap (λ (ys : List ℕ). take at xs ++ ys) (rw (drop_of_length-le (drop at xs) short) (append-nil part))
