-- A list with another part in the place of one, by its elements.
use mathlib.Core.Path.{◌≡◌, sym, ◌∙◌, ap}
use mathlib.Core.List.{List, ◌++◌}
use Prim.Native.Nat.{ℕ, ◌+◌, ◌-◌, ◌≤◌, ◌<◌}
use native.Mathlib.Omega.{arith}
use lib.ListN.{length, get_or, take, drop, length-append, length-drop, get_or-append}
use lib.Seq.{get_or-append-add, get_or-take, get_or-drop, length-take-le}

module _ (xs : List ℕ) (a n : ℕ) (part : List ℕ) (long : length part ≡ n) (inside : a + n ≤ length xs) where
  abbrev patched : List ℕ
  patched = take a xs ++ (part ++ drop n (drop a xs))

  front : length (take a xs) ≡ a
  front = length-take-le a xs (omega arith)

  pub patched_long : length patched ≡ length xs
  patched_long =
      omega (arith, length-append (take a xs) (part ++ drop n (drop a xs)), front, length-append part (drop n (drop a xs)), length-drop n (drop a xs), length-drop a xs)

  pub patched_before : (k : ℕ) → k < a → get_or patched k 0 ≡ get_or xs k 0
  patched_before k h = get_or-append (take a xs) (part ++ drop n (drop a xs)) 0 k (omega (arith, front)) ∙ get_or-take a xs k 0 h

  pub patched_there : (k : ℕ) → k < n → get_or patched (a + k) 0 ≡ get_or part k 0
  patched_there k h =
      ap (λ (m : ℕ). get_or patched (m + k) 0) (sym front) ∙ get_or-append-add (take a xs) (part ++ drop n (drop a xs)) k 0
      ∙ get_or-append part (drop n (drop a xs)) 0 k (omega arith)

  pub patched_behind : (k : ℕ) → a + n ≤ k → get_or patched k 0 ≡ get_or xs k 0
  patched_behind k h =
      let e : k ≡ length (take a xs) + (length part + (k - (a + n))) = omega (arith, front) in
      let f : a + (n + (k - (a + n))) ≡ k = omega arith in
      ap (λ (m : ℕ). get_or patched m 0) e ∙ get_or-append-add (take a xs) (part ++ drop n (drop a xs)) (length part + (k - (a + n))) 0
      ∙ get_or-append-add part (drop n (drop a xs)) (k - (a + n)) 0 ∙ get_or-drop n (drop a xs) (k - (a + n)) 0 ∙ get_or-drop a xs (n + (k - (a + n))) 0
      ∙ ap (λ (m : ℕ). get_or xs m 0) f
