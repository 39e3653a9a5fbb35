-- The longer automaton, copied to the front of a slice.
use mathlib.Core.Path.{◌≡◌, refl, sym, ap, ◌∙◌}
use mathlib.Core.List.{List, ◌++◌, append_assoc}
use Prim.Native.Nat.{ℕ, ◌+◌, ◌≤◌}
use native.Mathlib.Omega.{arith}
use lib.ListN.{length, take, drop, length-append}
use lib.Seq.{take_at, drop_at, drop-drop}
use Rattle.adding_terms.specs.Adding.{longer}

module _ (a new slice : List ℕ) where
  -- the old automaton is copied to the front, and the new transition behind it
  pub copied_twice : (once twice : List ℕ) → once ≡ take 0 slice ++ (a ++ drop (0 + length a) slice) → twice ≡ take (length a) once ++ (new ++ drop (length a + length new) once)
      → twice ≡ longer a new ++ drop (length a + length new) slice
  copied_twice once twice e f =
      let copied : once ≡ a ++ drop (0 + length a) slice = e in
      let s : 0 + length a ≡ length a = omega arith in
      rw (f, copied, s, take_at a (drop (length a) slice) (length a) refl, append_assoc)
      (ap (λ (xs : List ℕ). a ++ (new ++ xs)) (sym (drop-drop (length new) (length a) (a ++ drop (length a) slice)) ∙ ap (drop (length new)) (drop_at a (drop (length a) slice) (length a) refl) ∙ drop-drop (length new) (length a) slice))

  -- what stands at the front is the longer automaton
  pub front-is : (n : ℕ) → n ≡ length a + length new → (exit : List ℕ) → exit ≡ longer a new ++ drop (length a + length new) slice → take n exit ≡ longer a new
  front-is n e exit f = rw f (take_at (longer a new) _ n (length-append a new ∙ sym e))

  pub front-within : (exit : List ℕ) → exit ≡ longer a new ++ drop (length a + length new) slice → length a + length new ≤ length exit
  front-within exit f = rw f (omega (arith, length-append (longer a new) (drop (length a + length new) slice), length-append a new))
