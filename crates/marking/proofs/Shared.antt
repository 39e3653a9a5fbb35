-- Two sets of states share a state exactly where the bits that they have in common are not the number 0.
use mathlib.Core.Path.{◌≡◌, refl, sym, ap, ◌∙◌}
use mathlib.Core.Bool.{Bool, true, false, ◌&&◌}
use Prim.Native.Nat.{ℕ, ◌^◌, ◌<◌}
use native.Mathlib.Omega.{arith}
use lib.Bits.{bit_and, and_le_l}
use Rattle.terms.specs.Test.{some}
use Rattle.terms.specs.Automaton.{bit, has, set_of}
use Rattle.terms.proofs.Test.{of_true, some_in, some_cong}
use Rattle.terms.proofs.Automaton.Bits.{set_cong, set-whole}
use Rattle.relations.proofs.Laws.{has_and}
use Rattle.terms.specs.Sheet.{accepted, declined}
use Rattle.marking.specs.Private.Verdict.{verdict_on}

none_in : (n : ℕ) (f : ℕ → Bool) → some n f ≡ false → (q : ℕ) → q < n → f q ≡ false
none_in n f e q h = go (f q) refl
  where
    go : (b : Bool) → f q ≡ b → f q ≡ false
    go false t = t
    go true t = absurd (rw e at (some_in n f q h (of_true (f q) t)))

-- a number below 2 ^ 8 that has no bit
no_bit : (x : ℕ) → x < 2 ^ 8 → some 8 (has x) ≡ false → x ≡ 0
unfolding set_of
no_bit x h e = sym (set-whole 8 x h) ∙ set_cong 8 (has x) (λ q. false) (none_in 8 (has x) e)

zero_has : some 8 (has 0) ≡ false
unfolding some has bit
zero_has = refl

module _ (m f : ℕ) where
  common : some 8 (λ q. has m q && has f q) ≡ some 8 (has (bit_and m f))
  common = some_cong 8 (λ q. has m q && has f q) (has (bit_and m f)) (λ q h. sym (has_and m f q))

  none_shared : bit_and m f ≡ 0 → some 8 (λ q. has m q && has f q) ≡ false
  none_shared e = common ∙ ap (λ (x : ℕ). some 8 (has x)) e ∙ zero_has

  some_shared : m < 2 ^ 8 → (bit_and m f ≡ 0 → ⊥) → some 8 (λ q. has m q && has f q) ≡ true
  some_shared h k = common ∙ go (some 8 (has (bit_and m f))) refl
    where
      go : (b : Bool) → some 8 (has (bit_and m f)) ≡ b → some 8 (has (bit_and m f)) ≡ true
      go true e = e
      go false e = absurd (k (no_bit (bit_and m f) (omega (arith, and_le_l m f)) e))

  -- the verdict
  pub declines : bit_and m f ≡ 0 → declined ≡ verdict_on m f
  declines e = rw (none_shared e)

  pub accepts : m < 2 ^ 8 → (bit_and m f ≡ 0 → ⊥) → accepted ≡ verdict_on m f
  accepts h k = rw (some_shared h k)
