-- The counts that are lent: those of a rule stand together, one rule behind the other.
use Rattle.std.specs.Prelude.{◌≡◌, List, [], ◌∷◌, ℕ, ◌+◌, ◌*◌, ◌-◌, ◌≤◌, ◌<◌, length, get_or, take}
use Rattle.std.proofs.lemmas.List.Edits.{sets}
use Rattle.terms.specs.Test.{tabulate, joined}
use Rattle.terms.specs.Form.{Rule, whole, pierced, filled, composed, value_at}
use Rattle.terms.specs.FormBytes.{table_count, slot_of, table_rules}
use Rattle.terms.specs.Count.{capped}
use Rattle.terms.specs.Calls.{counts_per_rule, value_counts, rules_counts}
use Rattle.forms.specs.Private.Table.{ValidTable}

-- the sum of the counts of the rules that are named
abbrev pub total : (ℕ → ℕ) → List ℕ → ℕ
total own [] = 0
total own (a ∷ as') = own a + total own as'

-- how many nodes a rule derives, where own counts those of lower rules
abbrev pub own_by : (ℕ → ℕ) → Rule → ℕ
own_by own (whole f slots) = 1 + total own slots
own_by own (pierced f ls rs) = 1 + total own ls + total own rs
own_by own (filled b c) = own b + own c
own_by own (composed b c) = own b + own c

-- how many of them stand before its open place, where prior counts those of lower rules
abbrev pub before_by : (ℕ → ℕ) → (ℕ → ℕ) → Rule → ℕ
before_by own prior (whole f slots) = 0
before_by own prior (pierced f ls rs) = 1 + total own ls
before_by own prior (filled b c) = 0
before_by own prior (composed b c) = prior b + prior c

-- the counts of rule i are there (01 Unfolding)
abbrev pub HasCounts : List ℕ → ℕ → Type 0
HasCounts counts i = counts_per_rule * i + counts_per_rule ≤ length counts

-- how many nodes rule i derives, by the counts (01 Unfolding)
abbrev pub own_in : List ℕ → ℕ → ℕ
own_in counts i = get_or counts (counts_per_rule * i) 0

-- how many of them stand before its open place, by the counts (01 Unfolding)
abbrev pub before_in : List ℕ → ℕ → ℕ
before_in counts i = get_or counts (counts_per_rule * i + 1) 0

-- the counts with those of rule i written (01 Unfolding)
abbrev pub counts_written : List ℕ → ℕ → List ℕ → List ℕ
counts_written counts i written = sets counts (counts_per_rule * i) written

-- the counts of the rules below n (01 Unfolding)
abbrev pub counts_below : List Rule → ℕ → List ℕ
counts_below rules n = joined n (λ i. value_counts (value_at rules i))

-- the table of a form that is not refused, and numbers that begin with the counts of its rules (01 Unfolding)
pub record CountedTable (alphabet table counts : List ℕ) : Type 0 where
  pub valid : ValidTable alphabet table
  pub counted : take (counts_per_rule * table_count table) counts ≡ rules_counts (table_rules alphabet table)

-- n and m are the counts of a rule, capped, by those of lower rules (01 Unfolding)
pub record CountedRule (counts : List ℕ) (rule : Rule) (n m : ℕ) : Type 0 where
  pub own : n ≡ capped (own_by (own_in counts) rule)
  pub prior : m ≡ capped (before_by (own_in counts) (before_in counts) rule)

-- the slots from one place up to another
abbrev pub slots_from : (ℕ → ℕ) → ℕ → ℕ → List ℕ
slots_from slot from to = tabulate (to - from) (λ j. slot (from + j))

-- the slots from one up to another of rule i of the table name rules that have counts (01 Unfolding)
pub record Readable (table counts : List ℕ) (i from to : ℕ) : Type 0 where
  pub rule : i < table_count table
  pub order : from ≤ to
  pub few : to ≤ 4
  pub low : (j : ℕ) → from ≤ j → j < to → HasCounts counts (slot_of table i j)
