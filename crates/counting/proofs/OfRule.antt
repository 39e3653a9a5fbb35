-- What a rule of a valid form has of its own before and after its open place, and so in all, from what the rules that it names have.
use mathlib.Core.Path.{◌≡◌, refl, ◌∙◌, ap, ap₂}
use mathlib.Core.List.{List, [], ◌∷◌, ◌++◌, append_assoc, append-nil}
use Prim.Native.Nat.{ℕ, ◌≤◌, ◌<◌}
use native.Mathlib.Omega.{arith}
use lib.ListN.{length}
use Rattle.terms.specs.Tree.{preorder}
use Rattle.terms.specs.Context.{before, after}
use Rattle.terms.specs.Form.{Rule, whole, pierced, filled, composed, Value, tree_in, context_in, value_of, value_at, rule_at, Fits, Valid}
use Rattle.terms.proofs.Tree.Context.{preorder-plug, before-compose, after-compose}
use Rattle.terms.proofs.Form.Value.{value-step}
use Rattle.counting.specs.Private.Symbols.{symbols_before, symbols_after, own_symbols, symbols_at}
use Rattle.counting.proofs.Symbols.{own_parts, around, tree_symbols, context-before, context-after, trees_symbols}

-- what a rule has before its open place, where v is what lower rules derive
abbrev pub rule_before : (ℕ → Value) → Rule → List ℕ
rule_before v (whole f slots) = f ∷ symbols_at v slots
rule_before v (pierced f ls rs) = f ∷ symbols_at v ls
rule_before v (filled b c) = around (v b) (v c)
rule_before v (composed b c) = symbols_before (v b) ++ symbols_before (v c)

-- what a rule has after its open place
abbrev pub rule_after : (ℕ → Value) → Rule → List ℕ
rule_after v (whole f slots) = []
rule_after v (pierced f ls rs) = symbols_at v rs
rule_after v (filled b c) = []
rule_after v (composed b c) = symbols_after (v c) ++ symbols_after (v b)

-- what a rule has in all
abbrev pub symbols_of : (ℕ → Value) → Rule → List ℕ
symbols_of v (whole f slots) = f ∷ symbols_at v slots
symbols_of v (pierced f ls rs) = f ∷ (symbols_at v ls ++ symbols_at v rs)
symbols_of v (filled b c) = around (v b) (v c)
symbols_of v (composed b c) = around (v b) (v c)

rule_parts : (v : ℕ → Value) (r : Rule) → rule_before v r ++ rule_after v r ≡ symbols_of v r
rule_parts v (whole f slots) = append-nil (f ∷ symbols_at v slots)
rule_parts v (pierced f ls rs) = refl
rule_parts v (filled b c) = append-nil (around (v b) (v c))
rule_parts v (composed b c) = rw (own_parts (v c)) (simp append_assoc)

module _ {alphabet : List ℕ} {rs : List Rule} (valid : Valid alphabet rs) (n : ℕ) (most : n ≤ length rs) where
  pub fits-before : (r : Rule) → Fits alphabet rs n r → symbols_before (value_of r (value_at rs)) ≡ rule_before (value_at rs) r
  unfolding value_of preorder before
  fits-before (whole f slots) p = ap (λ s. f ∷ s) (trees_symbols valid n most slots p.0)
  fits-before (pierced f ls us) p = rw append-nil (ap (λ s. f ∷ s) (trees_symbols valid n most ls p.0))
  fits-before (filled b c) p =
      rw (← context-before valid n most b p.0, ← context-after valid n most b p.0, ← tree_symbols valid n most c p.1)
      (preorder-plug (context_in (value_at rs b)) (tree_in (value_at rs c)))
  fits-before (composed b c) p =
      rw (← context-before valid n most b p.0, ← context-before valid n most c p.1)
      (before-compose (context_in (value_at rs b)) (context_in (value_at rs c)))

  fits_after : (r : Rule) → Fits alphabet rs n r → symbols_after (value_of r (value_at rs)) ≡ rule_after (value_at rs) r
  unfolding value_of after
  fits_after (whole f slots) p = refl
  fits_after (pierced f ls us) p = trees_symbols valid n most us p.1
  fits_after (filled b c) p = refl
  fits_after (composed b c) p =
      rw (← context-after valid n most b p.0, ← context-after valid n most c p.1)
      (after-compose (context_in (value_at rs b)) (context_in (value_at rs c)))

-- what rule n has, from what the rules that it names have
module _ {alphabet : List ℕ} {rs : List Rule} (valid : Valid alphabet rs) (n : ℕ) (low : n < length rs) where
  pub own-before : symbols_before (value_at rs n) ≡ rule_before (value_at rs) (rule_at rs n)
  own-before = ap symbols_before (value-step valid n low) ∙ fits-before valid n (omega arith) (rule_at rs n) (valid.fits n low)

  pub own-after : symbols_after (value_at rs n) ≡ rule_after (value_at rs) (rule_at rs n)
  own-after = ap symbols_after (value-step valid n low) ∙ fits_after valid n (omega arith) (rule_at rs n) (valid.fits n low)

  pub own_symbols_lem : own_symbols (value_at rs n) ≡ symbols_of (value_at rs) (rule_at rs n)
  own_symbols_lem = own_parts (value_at rs n) ∙ ap₂ ◌++◌ own-before own-after ∙ rule_parts (value_at rs) (rule_at rs n)
