-- A rule with one symbol of its own is a node with no slots, and the symbol is its terminal.
use mathlib.Core.Logic.{◌⊎◌, inl, inr}
use mathlib.Core.Path.{◌≡◌, refl}
use mathlib.Core.List.{List, [], ◌∷◌}
use Prim.Native.Nat.{ℕ, zero, suc, ◌+◌, ◌<◌, ◌≤◌}
use native.Mathlib.Omega.{arith}
use lib.ListN.{length, set}
use Rattle.terms.specs.FormBytes.{table_count, rule_byte}
use Rattle.counting.specs.Private.Symbols.{symbols_before, symbols_after}
use Rattle.counting.specs.Private.Counts.{CountedTable}
use Rattle.writing.specs.Writing.{spliced, value_in, rule_written}
use Rattle.writing.proofs.write.ByKind.{chain, node-some, node-first}

-- a symbol, written with a gap behind it
alone : (l : List ℕ) (at f gap : ℕ) (xs ys : List ℕ) → length (f ∷ xs) + length ys ≡ 1 → set l at f ≡ spliced l at (f ∷ xs) gap ys
alone l at f gap [] [] e = refl
alone l at f gap (x ∷ xs) ys e = absurd (omega arith)
alone l at f gap [] (y ∷ ys) e = absurd (omega arith)

low_or_high : (kind : ℕ) → (kind < 2) ⊎ (2 ≤ kind)
low_or_high zero = inl (omega arith)
low_or_high (suc zero) = inl (omega arith)
low_or_high (suc (suc k)) = inr (omega arith)

module _ {alphabet table counts : List ℕ} (known : CountedTable alphabet table counts) where
  abbrev own : ℕ → ℕ
  own i = length (symbols_before (value_in alphabet table i)) + length (symbols_after (value_in alphabet table i))

  -- every rule has symbols of its own
  own-some : (n i : ℕ) → i < n → i < table_count table → 0 < own i
  own-some zero i low below = absurd (omega arith)
  own-some (suc n) i low below = go (λ b less. own-some n b (omega arith) (omega arith)) (low_or_high (rule_byte table i 0))
    where
      go : ((b : ℕ) → b < i → 0 < own b) → (rule_byte table i 0 < 2) ⊎ (2 ≤ rule_byte table i 0) → 0 < own i
      go lower (inl few) = omega (arith, node-some _ _ _ _ known below few)
      go lower (inr two) = let both = chain _ _ _ _ known below refl refl two in omega (arith, both.long, lower _ both.root.below)

  -- so a rule of kind 2 or 3, which has those of two rules, has more than one
  single-first : (i : ℕ) → i < table_count table → own i ≡ 1 → (rest : List ℕ) × (symbols_before (value_in alphabet table i) ≡ rule_byte table i 1 ∷ rest)
  single-first i below one = go (low_or_high (rule_byte table i 0))
    where
      go : (rule_byte table i 0 < 2) ⊎ (2 ≤ rule_byte table i 0) → (rest : List ℕ) × (symbols_before (value_in alphabet table i) ≡ rule_byte table i 1 ∷ rest)
      go (inl few) = node-first _ _ _ _ known below few
      go (inr two) =
          let both = chain _ _ _ _ known below refl refl two in
          let root = own-some i _ both.root.below (omega (arith, both.root.below)) in
          let inner = own-some i _ both.inner.below (omega (arith, both.inner.below)) in
          absurd (omega (arith, both.long))

  module _ (i : ℕ) (below : i < table_count table) (one : own i ≡ 1) where
    pub single-some : 0 < length (symbols_before (value_in alphabet table i))
    single-some = let (rest, first) = single-first i below one in rw first (omega arith)

    pub single-written : (l : List ℕ) (at gap : ℕ) → set l at (rule_byte table i 1) ≡ rule_written alphabet table i l at gap
    single-written l at gap =
        let (rest, first) = single-first i below one in
        rw first (alone l at (rule_byte table i 1) gap rest (symbols_after (value_in alphabet table i)) (rw first at one))
