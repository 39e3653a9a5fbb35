-- The table of a form that is not refused.
use Rattle.std.specs.Prelude.{◌≡◌, true, List, ℕ, ◌*◌, ◌≤◌, length}
use Rattle.terms.specs.Test.{every}
use Rattle.terms.specs.FormBytes.{rule_length, table_count, rule_fits, most_form_rules}
use Rattle.terms.specs.Check.{alphabet_refusal}

-- a table of whole rules, not too many, that keep what is asked of them for an alphabet that is not refused (01 One-hole form)
pub record ValidTable (alphabet table : List ℕ) : Type 0 where
  pub ranked : alphabet_refusal alphabet ≡ 0
  pub whole : length table ≡ rule_length * table_count table
  pub few : table_count table ≤ most_form_rules
  pub fits : every (table_count table) (rule_fits alphabet table) ≡ true
