-- All rules of a grammar, from the first to the last.
use Rattle.std.specs.Prelude.{◌≡◌, List, ℕ, ◌*◌, ◌-◌, ◌≤◌, length, get_or}
use Rattle.terms.specs.Grammar.{node_count, Proper}
use Rattle.terms.specs.Grammar.{Rule as Production}
use Rattle.terms.specs.Form.{form_bound}
use Rattle.terms.specs.Sheet.{rules_body}
use Rattle.terms.specs.Check.{alphabet_refusal, most_nodes}
use Rattle.terms.specs.FormBytes.{rule_length}
use Rattle.skeletons.specs.Skeleton.{shut}
use Rattle.skeletons.specs.Make.{Form, skeleton_of}
use Rattle.skeletons.specs.Scan.{scanned}
use Rattle.form_writing.specs.Bytes.{Holds}
use Rattle.right_sides.specs.declared.rules.Whole.{Whole}

-- the rules of a body are a grammar over the alphabet, and the table has room for its form's rules
pub record Grammar (table terminals body : List ℕ) (rules : ℕ) : Type 0 where
  pub alphabet : alphabet_refusal terminals ≡ 0
  pub proper : Proper terminals (rules_body body).rules
  pub count : rules ≡ length (rules_body body).rules
  pub few : node_count (rules_body body).rules ≤ most_nodes
  pub room : rule_length * form_bound (rules_body body).rules ≤ length table

-- the form that the model makes of the rules
abbrev pub model_of : List ℕ → List Production → Form
model_of alphabet rules = scanned alphabet rules (length rules)

-- the table holds the rules that the model makes, and what is behind them is kept
pub record RulesMade (table alphabet body table' : List ℕ) (r : Whole) : Type 0 where
  pub held : Holds table' (model_of alphabet (rules_body body).rules).rules
  pub counted : r.count.0 ≡ length (model_of alphabet (rules_body body).rules).rules
  pub begun : skeleton_of (model_of alphabet (rules_body body).rules) (length (rules_body body).rules - 1) ≡ shut r.start.0
  pub long : length table' ≡ length table
  pub behind : (k : ℕ) → rule_length * r.count.0 ≤ k → get_or table' k 0 ≡ get_or table k 0
