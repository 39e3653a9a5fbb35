-- What the writing of a rule's own symbols into a slice asks and leaves.
use Rattle.std.specs.Prelude.{◌≡◌, List, ℕ, ◌+◌, ◌≤◌, ◌<◌, ltb, length}
use Rattle.std.proofs.lemmas.List.Edits.{sets}
use Rattle.terms.specs.Refusal.{◌when◌}
use Rattle.terms.specs.Form.{Value, value_at, rule_at, holes, Slots}
use Rattle.terms.specs.FormBytes.{table_count, slot_of, table_rules}
use Rattle.terms.specs.Count.{own_nodes}
use Rattle.counting.specs.Private.Symbols.{symbols_before, symbols_after, symbols_at}
use Rattle.counting.specs.Private.Counts.{slots_from}

-- the list with some symbols from a place on, then a gap that is kept, then more symbols
abbrev pub spliced : List ℕ → ℕ → List ℕ → ℕ → List ℕ → List ℕ
spliced entry at xs gap ys = sets (sets entry at xs) (at + length xs + gap) ys

-- what rule i derives
abbrev pub value_in : List ℕ → List ℕ → ℕ → Value
value_in alphabet table = value_at (table_rules alphabet table)

-- the symbols of the slots of rule i from one up to another, one behind the other
abbrev pub symbols_in : List ℕ → List ℕ → ℕ → ℕ → ℕ → List ℕ
symbols_in alphabet table i from to = symbols_at (value_in alphabet table) (slots_from (slot_of table i) from to)

-- the list with the own symbols of rule i from a place on, around a gap
abbrev pub rule_written : List ℕ → List ℕ → ℕ → List ℕ → ℕ → ℕ → List ℕ
rule_written alphabet table i entry at gap = spliced entry at (symbols_before (value_in alphabet table i)) gap (symbols_after (value_in alphabet table i))

-- the refusal of a slice of some length for the own symbols of rule i: 20 where they do not fit (01 Unfolding)
abbrev pub room_refusal : List ℕ → List ℕ → ℕ → ℕ → ℕ
room_refusal alphabet table i room = 20 when (ltb room (own_nodes (value_in alphabet table i)))

-- a slice of some length has room for the own symbols of rule i at a place, with the gap, which is 0 where the rule has no open place
pub record RuleRoom (alphabet table : List ℕ) (i at gap room : ℕ) : Type 0 where
  pub below : i < table_count table
  pub shut : holes (rule_at (table_rules alphabet table) i) ≡ 0 → gap ≡ 0
  pub fits : at + length (symbols_before (value_in alphabet table i)) + gap + length (symbols_after (value_in alphabet table i)) ≤ room

-- the slots are lower rules of rank 0, and a slice of some length has room for their symbols at a place
pub record SlotsRoom (alphabet table : List ℕ) (i from to at room : ℕ) : Type 0 where
  pub below : i < table_count table
  pub few : to ≤ 4
  pub slots : Slots (table_rules alphabet table) i (slots_from (slot_of table i) from to)
  pub fits : at + length (symbols_in alphabet table i from to) ≤ room
