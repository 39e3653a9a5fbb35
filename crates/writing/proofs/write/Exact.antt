-- The counts of a rule whose symbols fit in a slice are exact.
use mathlib.Core.Path.{◌≡◌}
use mathlib.Core.List.{List}
use Prim.Native.Nat.{ℕ, ◌+◌, ◌^◌, ◌<◌}
use native.Mathlib.Omega.{arith}
use lib.ListN.{length}
use Rattle.terms.specs.Form.{Has}
use Rattle.terms.specs.FormBytes.{table_count, table_rules}
use Rattle.counting.specs.Private.Symbols.{symbols_before, symbols_after}
use Rattle.counting.proofs.Symbols.{count_parts, nodes-before}
use Rattle.counting.specs.Private.Counts.{own_in, before_in, CountedTable}
use Rattle.writing.specs.Writing.{value_in}
use Rattle.forms.proofs.Rules.{rules-counted, valid-rules}
use Rattle.counting.proofs.Counted.{own-known, before-known}

module _ {alphabet table counts : List ℕ} (known : CountedTable alphabet table counts) (i : ℕ) where
  abbrev first : ℕ
  first = length (symbols_before (value_in alphabet table i))

  abbrev last : ℕ
  last = length (symbols_after (value_in alphabet table i))

  pub own-exact : i < table_count table → first + last < 2 ^ 64 → own_in counts i ≡ first + last
  own-exact low h = omega (arith, own-known known i low, count_parts (value_in alphabet table i))

  pub before-exact : (n : ℕ) → n < table_count table → Has (table_rules alphabet table) n 1 i → first < 2 ^ 64 → before_in counts i ≡ first
  before-exact n low has h =
      omega (arith, before-known known i (omega arith), nodes-before (valid-rules alphabet table known.valid) n (omega (arith, rules-counted alphabet table known.valid)) i has)
