-- What a call that works out the counts of a form leaves in the numbers that are lent, and what size answers.
use mathlib.Core.Path.{◌≡◌, ◌∙◌, ap}
use mathlib.Core.List.{List, ◌++◌}
use Prim.Native.Nat.{ℕ, ◌*◌}
use native.Mathlib.Omega.{arith}
use lib.ListN.{length, take, drop}
use lib.Seq.{take_at}
use borrow.Author.Tests.{lt-ltb, le-ltb}
use Rattle.terms.specs.FormBytes.{table_count, table_rules}
use Rattle.terms.specs.Count.{largest, capped, exact, over, size_answer}
use Rattle.terms.specs.Calls.{lent_after, counts_per_rule, rules_counts}
use Rattle.terms.proofs.InTurn.{leaves_written}
use Rattle.counting.specs.Private.Counts.{CountedTable}
use Rattle.forms.specs.Private.Table.{ValidTable}
use Rattle.forms.proofs.Rules.{rules-counted}
use Rattle.counting.proofs.Counted.{length-counts}

module _ {alphabet table : List ℕ} (v : ValidTable alphabet table) where
  abbrev counts : List ℕ
  counts = rules_counts (table_rules alphabet table)

  all_counts : length counts ≡ counts_per_rule * table_count table
  all_counts = omega (arith, length-counts (table_rules alphabet table), rules-counted alphabet table v)

  -- the counts are worked out in front of some numbers
  pub counted_table : (numbers rest : List ℕ) → numbers ≡ counts ++ rest → CountedTable alphabet table numbers
  counted_table numbers rest begins =
      let n = counts_per_rule * table_count table in
      record { valid = v; counted = ap (take n) begins ∙ take_at counts rest n (omega (arith, all_counts)) }

  -- what is left in the numbers that are lent where nothing is refused
  pub counts-left : (refusal : ℕ) (numbers exit : List ℕ) → 0 ≡ refusal → exit ≡ counts ++ drop (counts_per_rule * table_count table) numbers → exit ≡ lent_after refusal counts numbers
  counts-left refusal numbers exit none e = rw (leaves_written refusal counts numbers none, all_counts) e

-- the size of a tree of n nodes, by its count
module _ (n m : ℕ) (c : m ≡ capped n) where
  pub size-over : m ≡ largest → size_answer n ≡ over
  unfolding size_answer
  size-over l = rw (le-ltb n largest (omega arith))

  pub size-exact : (m ≡ largest → ⊥) → size_answer n ≡ exact m
  unfolding size_answer
  size-exact h =
      let same : n ≡ m = omega arith in
      rw (lt-ltb n largest (omega arith)) (ap exact same)
