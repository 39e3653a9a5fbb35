-- The tables of the rules of a body, one behind the other.
use Rattle.std.specs.Prelude.{◌≡◌, List, ℕ, ◌*◌, ◌≤◌, length}
use Rattle.terms.specs.Test.{joined}
use Rattle.terms.specs.Sheet.{rules_body, state_count, transitions_of}
use Rattle.terms.specs.Check.{alphabet_refusal, automaton_refusal}
use Rattle.terms.specs.Calls.{lent_after}
use Rattle.cleaning.specs.Clean.{GrammarBody}
use Rattle.blackboard_terms.specs.Blackboard.{table_length, rule_table}

-- the rules of a body are a grammar over an alphabet that passes, as the automaton does, and there is room for their tables (02 R-7)
pub record RulesReady (alphabet automaton body tables : List ℕ) : Type 0 where
  pub alphabet-passes : alphabet_refusal alphabet ≡ 0
  pub automaton_passes : automaton_refusal alphabet automaton ≡ 0
  pub grammar : GrammarBody alphabet body
  pub room : table_length * length (rules_body body).rules ≤ length tables

-- the tables are written, and later bytes are kept (02 R-7)
abbrev pub TablesWritten : List ℕ → List ℕ → List ℕ → List ℕ → List ℕ → Type 0
TablesWritten alphabet automaton body entry exit =
    let rules = (rules_body body).rules in
    exit ≡ lent_after 0 (joined (length rules) (rule_table alphabet rules (transitions_of alphabet automaton) (state_count automaton))) entry
