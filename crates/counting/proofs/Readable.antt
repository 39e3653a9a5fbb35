-- The slots of a rule name rules that have counts, where the numbers hold the counts of lower rules.
use mathlib.Core.Path.{◌≡◌}
use mathlib.Core.List.{List}
use Prim.Native.Nat.{ℕ, ◌+◌, ◌-◌, ◌*◌, ◌≤◌, ◌<◌}
use native.Mathlib.Omega.{arith}
use lib.ListN.{length}
use Rattle.terms.specs.Grammar.{terminal_rank}
use Rattle.terms.specs.Test.{tabulate}
use Rattle.terms.specs.Form.{Rule, pierced, Has, Slots, Fits}
use Rattle.terms.specs.FormBytes.{table_count, rule_byte, slot_of, table_rules}
use Rattle.terms.specs.Calls.{counts_per_rule}
use Rattle.forms.specs.Private.Table.{ValidTable}
use Rattle.forms.proofs.Rules.{slots_at, rank-low, fits, is_whole, is-pierced, hole-within, chain-low}
use Rattle.counting.specs.Private.Counts.{HasCounts, Readable}

module _ (alphabet table : List ℕ) (v : ValidTable alphabet table) (i : ℕ) (l : i < table_count table) where
  abbrev n : ℕ
  n = terminal_rank alphabet (rule_byte table i 1)

  abbrev h : ℕ
  h = rule_byte table i 2

  abbrev slot : ℕ → ℕ
  slot = slot_of table i

  abbrev rules : List Rule
  rules = table_rules alphabet table

  abbrev low : n ≤ 4
  low = rank-low alphabet table v (rule_byte table i 1)

  module _ (counts : List ℕ) (room : counts_per_rule * i ≤ length counts) where
    readable : (from to : ℕ) → from ≤ to → to ≤ 4 → ((j : ℕ) → from ≤ j → j < to → Has rules i 0 (slot j)) → Readable table counts i from to
    readable from to b t has = record { rule = l; order = b; few = t; low = λ j x y. omega (arith, (has j x y).below) }

    pub whole_readable : rule_byte table i 0 ≡ 0 → Readable table counts i 0 n
    whole_readable k = readable 0 n (omega arith) low (λ j x. slots_at rules i n slot (rw (is_whole alphabet table v i l k) at (fits alphabet table v i l)).0 j)

    -- kinds 2 and 3
    pub chain_counted : 2 ≤ rule_byte table i 0 → HasCounts counts (slot 0) × HasCounts counts (slot 1)
    chain_counted k =
        let low = chain-low alphabet table v i l k in
        omega (arith, low.0, low.1)

    -- kind 1: the slots before the hole and those after it
    module _ (k : rule_byte table i 0 ≡ 1) where
      names : Slots rules i (tabulate (h - 1) slot) × Slots rules i (tabulate (n - h) (λ j. slot (h + j)))
      names = let p : Fits alphabet rules i (pierced (rule_byte table i 1) (tabulate (h - 1) slot) (tabulate (n - h) (λ j. slot (h + j)))) = rw (is-pierced alphabet table v i l k) at (fits alphabet table v i l) in (p.0, p.1)

      within : (1 ≤ h) × (h ≤ n)
      within = hole-within alphabet table v i l k

      pub left_readable : Readable table counts i 0 (h - 1)
      left_readable = readable 0 (h - 1) (omega arith) (omega (arith, within.1, low)) (λ j x. slots_at rules i (h - 1) slot names.0 j)

      pub right_readable : Readable table counts i h n
      right_readable =
          readable h n within.1 low
          (λ j x y. let e : h + (j - h) ≡ j = omega arith in rw e at (slots_at rules i (n - h) (λ j. slot (h + j)) names.1 (j - h) (omega arith)))
