-- A rule of a table as a value (document 01, "One-hole form").
use Rattle.std.specs.Prelude.{List, ℕ}
use Rattle.terms.specs.FormBytes.{rule_byte, slot_of}
use Rattle.form_bytes.specs.declared.rule.FormRule.{FormRule}
use Rattle.form_bytes.specs.declared.rule.Kind.{Kind}
use Rattle.form_bytes.specs.declared.rule.Kind.TheVariants as kinds

-- the number of a kind (01 One-hole form)
abbrev pub kind_number : Kind → ℕ
kind_number kinds.Whole = 0
kind_number kinds.Pierced = 1
kind_number kinds.Filled = 2
kind_number kinds.Composed = 3

-- the fields of rule i (01 One-hole form)
abbrev pub fields_at : List ℕ → ℕ → FormRule
fields_at table i = record {
  kind = rule_byte table i 0;
  terminal = record { 0 = rule_byte table i 1 };
  hole = rule_byte table i 2;
  slot0 = record { 0 = slot_of table i 0 };
  slot1 = record { 0 = slot_of table i 1 };
  slot2 = record { 0 = slot_of table i 2 };
  slot3 = record { 0 = slot_of table i 3 };
}
