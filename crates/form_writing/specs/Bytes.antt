-- The bytes that form making writes (document 01, "One-hole form", and document 02, R-5).
use Rattle.std.specs.Prelude.{◌≡◌, List, [], ◌∷◌, ◌++◌, ℕ, ◌+◌, ◌*◌, ◌<◌, ◌≤◌, length, get_or, take, drop}
use Rattle.terms.specs.Form.{Rule, rule_at}
use Rattle.terms.specs.FormBytes.{head_length, rule_length, rule_byte, unused, bytes_with, fields_of, rule_bytes, head_bytes}
use Rattle.form_bytes.specs.declared.rule.FormRule.{FormRule}

-- bytes put into a list at a place (01 One-hole form)
abbrev pub pasted : ℕ → List ℕ → List ℕ → List ℕ
pasted at bytes l = take at l ++ (bytes ++ drop (at + length bytes) l)

-- the bytes of a rule with these fields (01 One-hole form)
abbrev pub bytes_of : FormRule → List ℕ
bytes_of r = bytes_with r.kind r.terminal.0 r.hole (r.slot0.0 ∷ r.slot1.0 ∷ r.slot2.0 ∷ r.slot3.0 ∷ [])

-- the fields of a rule, by the list of its slots (01 One-hole form)
abbrev pub fields_with : ℕ → ℕ → ℕ → List ℕ → FormRule
fields_with kind terminal hole slots = record {
  kind = kind;
  terminal = record { 0 = terminal };
  hole = hole;
  slot0 = record { 0 = get_or slots 0 unused };
  slot1 = record { 0 = get_or slots 1 unused };
  slot2 = record { 0 = get_or slots 2 unused };
  slot3 = record { 0 = get_or slots 3 unused };
}

-- the fields of a rule (01 One-hole form)
abbrev pub fields_for : Rule → FormRule
fields_for r = fields_with (fields_of r).kind (fields_of r).terminal (fields_of r).hole (fields_of r).slots

-- the table holds the rules, from rule 0 on (01 One-hole form)
pub record Holds (table : List ℕ) (rules : List Rule) : Type 0 where
  pub bytes : (i k : ℕ) → i < length rules → k < rule_length → rule_byte table i k ≡ get_or (rule_bytes (rule_at rules i)) k 0

-- a list that differs from another only from a place on, for as many elements as are given (01 One-hole form)
pub record Kept (at size : ℕ) (exit entry : List ℕ) : Type 0 where
  pub long : length exit ≡ length entry
  pub front : (k : ℕ) → k < at → get_or exit k 0 ≡ get_or entry k 0
  pub behind : (k : ℕ) → at + size ≤ k → get_or exit k 0 ≡ get_or entry k 0

-- the rule of a number is written into the table, and nothing else (01 One-hole form)
pub record RuleWritten (number : ℕ) (rule : FormRule) (exit entry : List ℕ) : Type 0 where
  pub bytes : (k : ℕ) → k < rule_length → rule_byte exit number k ≡ get_or (bytes_of rule) k 0
  pub kept : Kept (rule_length * number) rule_length exit entry

-- the head of a form is written, and nothing else (01 One-hole form, 02 R-5)
pub record HeadWritten (alphabet : List ℕ) (count start : ℕ) (exit entry : List ℕ) : Type 0 where
  pub bytes : (k : ℕ) → k < head_length (length alphabet) → get_or exit k 0 ≡ get_or (head_bytes alphabet count start) k 0
  pub kept : Kept 0 (head_length (length alphabet)) exit entry
