-- Whether a rule depends on a terminal, by its fields and by flags for lower rules, and what going through the rules of a table leaves. No call's promise depends on
-- these.
use Rattle.std.specs.Prelude.{Bool, true, false, cond, ◌&&◌, ◌||◌, List, [], ◌∷◌, ℕ, ltb, eqb, get_or, set}
use Rattle.terms.specs.Test.{any}
use Rattle.terms.specs.Relation.{relation_of}
use Rattle.terms.specs.Sheet.{transitions_of}
use Rattle.terms.specs.FormBytes.{table_count, table_rule, table_rules}
use Rattle.form_bytes.specs.declared.rule.FormRule.{FormRule}
use Rattle.form_bytes.specs.Fields.{fields_at}
use Rattle.entries.specs.Entries.{entry_in}
use Rattle.adding_terms.specs.Adding.{redone}

-- the flag of rule i, none where there is no such rule
abbrev pub flag_of : List Bool → ℕ → Bool
flag_of flags i = get_or flags i false

-- the rule is of kind 0 or 1 with the terminal f (02 R-8)
abbrev pub has_terminal_by : FormRule → ℕ → Bool
has_terminal_by rule f = ltb rule.kind 2 && eqb rule.terminal.0 f

-- the same, or one of its slots names a rule with a flag (02 R-8)
abbrev pub depends_by : FormRule → List Bool → ℕ → Bool
depends_by rule flags f = has_terminal_by rule f || any (flag_of flags) (rule.slot0.0 ∷ rule.slot1.0 ∷ rule.slot2.0 ∷ rule.slot3.0 ∷ [])

-- the flags after rule i (02 R-8)
abbrev pub flags_after : List ℕ → ℕ → ℕ → List Bool → List Bool
flags_after table f i flags = cond (depends_by (fields_at table i) flags f) (set flags i true) flags

-- the entries after rule i: its own is redone where the rule depends on f (02 R-8)
abbrev pub entries_after : List ℕ → List ℕ → List ℕ → ℕ → ℕ → List Bool → List ℕ → List ℕ
entries_after alphabet automaton table f i flags relations =
    cond (depends_by (fields_at table i) flags f)
    (set relations i (relation_of (transitions_of alphabet automaton) (table_rule alphabet table i) (entry_in relations))) relations

-- the entries of the rules of a table, where the slice held these numbers and those of the rules that depend on the terminal f are redone (02 R-8)
abbrev pub redone_in : List ℕ → List ℕ → List ℕ → ℕ → List ℕ → List ℕ
redone_in alphabet automaton table f held = redone (transitions_of alphabet automaton) f (table_rules alphabet table) held (table_count table)
