-- The entries of the rules of a table.
use Rattle.std.specs.Prelude.{List, ℕ, zero, suc, get_or, set}
use Rattle.terms.specs.Test.{tabulate}
use Rattle.terms.specs.Relation.{relation_of, relation_at}
use Rattle.terms.specs.Sheet.{transitions_of}
use Rattle.terms.specs.FormBytes.{table_count, table_rule, table_rules}

-- the entry of rule i in a list of entries, 0 where the list has none
abbrev pub entry_in : List ℕ → ℕ → ℕ
entry_in relations i = get_or relations i 0

-- the entries of the rules of a table (01 Mask from the form)
abbrev pub relations_in : List ℕ → List ℕ → List ℕ → List ℕ
relations_in alphabet automaton table = tabulate (table_count table) (relation_at (transitions_of alphabet automaton) (table_rules alphabet table))

-- a list of entries after those of n rules from rule i on are worked out, one after another, each from the entries as they then are
unfoldable pub written_from : List ℕ → List ℕ → List ℕ → ℕ → ℕ → List ℕ → List ℕ
written_from alphabet automaton table i zero relations = relations
written_from alphabet automaton table i (suc n) relations =
    written_from alphabet automaton table (suc i) n (set relations i (relation_of (transitions_of alphabet automaton) (table_rule alphabet table i) (entry_in relations)))
