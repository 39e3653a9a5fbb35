-- Places in the list of counts, and how an answer moves each.
use mathlib.Core.Path.{◌≡◌, refl, ◌∙◌}
use mathlib.Core.Bool.{Bool, true, false, cond, ◌&&◌}
use mathlib.Core.List.{List}
use Prim.Native.Nat.{ℕ, ◌+◌, ◌*◌, ◌<◌}
use native.Mathlib.Omega.{arith}
use native.Mathlib.Decide.{ℕ_discrete}
use borrow.Author.Tests.{ltb-true, ltb-false, eq-eqb, ne_eqb}
use lib.Dec.{eqb}
use lib.ListN.{length, get_or, length-set}
use lib.Seq.{get_or-set_same, get_or-set_other}
use Rattle.terms.specs.Calls.{MarkAnswer, tally_count}
use Rattle.tallies.specs.Counts.{way, moves, up, counted}

and_none : (b : Bool) → (b && false) ≡ false
and_none true = refl
and_none false = refl

-- a list with one number higher by one
up_at : (xs : List ℕ) (j i : ℕ) → i < length xs → get_or (up j xs) i 0 ≡ get_or xs i 0 + cond (eqb j i) 1 0
up_at xs j i h = go (ℕ_discrete j i)
  where
    go : Dec (j ≡ i) → get_or (up j xs) i 0 ≡ get_or xs i 0 + cond (eqb j i) 1 0
    go (yes e) = rw (e, eq-eqb i i refl) (get_or-set_same xs i (get_or xs i 0 + 1) 0 h)
    go (no n) = rw (ne_eqb j i n) (get_or-set_other xs j i (get_or xs j 0 + 1) 0 (λ e. n (omega arith)) ∙ omega arith)

-- two places are the same where their candidates and ways are
same_place : (b c v w : ℕ) → v < 3 → w < 3 → eqb (3 * b + v) (3 * c + w) ≡ (eqb b c && eqb v w)
same_place b c v w h k = go (ℕ_discrete b c) (ℕ_discrete v w)
  where
    go : Dec (b ≡ c) → Dec (v ≡ w) → eqb (3 * b + v) (3 * c + w) ≡ (eqb b c && eqb v w)
    go (yes p) (yes q) = rw (eq-eqb b c p, eq-eqb v w q) (eq-eqb (3 * b + v) (3 * c + w) (omega arith))
    go (yes p) (no q) = rw (eq-eqb b c p, ne_eqb v w q) (ne_eqb (3 * b + v) (3 * c + w) (λ e. q (omega arith)))
    go (no p) q = rw (ne_eqb b c p) (ne_eqb (3 * b + v) (3 * c + w) (λ e. p (omega arith)))

module _ (b : ℕ) (m : MarkAnswer) (counts : List ℕ) where
  pub length-counted : length (counted b m counts) ≡ length counts
  length-counted = go (moves m)
    where
      go : (x : Bool) → length (cond x (up (3 * b + way m) counts) counts) ≡ length counts
      go true = simp length-set
      go false = refl

  module _ (c w : ℕ) where
    -- how an answer to candidate b moves candidate c's count of way w
    pub counted_at : 3 * c + w < length counts → w < 3 → tally_count (counted b m counts) c w ≡ tally_count counts c w + cond (eqb b c && eqb (way m) w) 1 0
    counted_at h k = go (moves m) refl
      where
        go : (x : Bool) → moves m ≡ x → get_or (cond x (up (3 * b + way m) counts) counts) (3 * c + w) 0 ≡ tally_count counts c w + cond (eqb b c && eqb (way m) w) 1 0
        go true e = up_at counts (3 * b + way m) (3 * c + w) h ∙ rw (same_place b c (way m) w (ltb-true (way m) 3 e) k)
        go false e = rw (ne_eqb (way m) w (λ q. omega (arith, ltb-false (way m) 3 e)), and_none (eqb b c)) (omega arith)

    -- an answer to another candidate moves none of candidate c's counts
    pub counted_other : w < 3 → (b ≡ c → ⊥) → tally_count (counted b m counts) c w ≡ tally_count counts c w
    counted_other k q = go (moves m) refl
      where
        go : (x : Bool) → moves m ≡ x → get_or (cond x (up (3 * b + way m) counts) counts) (3 * c + w) 0 ≡ tally_count counts c w
        go true e = get_or-set_other counts (3 * b + way m) (3 * c + w) _ 0 (λ p. q (omega (arith, ltb-true (way m) 3 e)))
        go false e = refl
