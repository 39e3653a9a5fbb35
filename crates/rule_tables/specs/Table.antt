-- The table of a rule, behind those of the lower rules.
use Rattle.std.specs.Prelude.{◌≡◌, Bool, List, ℕ, ◌+◌, ◌*◌, ◌≤◌, ◌<◌, length, get_or}
use Rattle.terms.specs.Grammar.{rule_rank}
use Rattle.terms.specs.Sheet.{state_count, transitions_of}
use Rattle.blackboard_terms.specs.Blackboard.{table_byte, table_length}
use Rattle.side_relations.specs.Side.{RuleGiven}

-- the rule of a number is given, its rank is noted, and there is room for its table (02 R-7)
pub record TableReady (alphabet automaton tables ranks : List ℕ) (present : List Bool) (nodes : List ℕ) (number : ℕ) : Type 0 where
  pub given : RuleGiven alphabet automaton tables ranks present nodes number
  pub rank : get_or ranks number 0 ≡ rule_rank given.rules number
  pub room : table_length * (number + 1) ≤ length tables

-- the table of the rule is written, and other bytes are kept (02 R-7)
pub record TableWritten (alphabet automaton tables ranks : List ℕ) (present : List Bool) (nodes : List ℕ) (number : ℕ) (tables' : List ℕ) : Type 0 where
  pub long : length tables' ≡ length tables
  pub before : (k : ℕ) → k < table_length * number → get_or tables' k 0 ≡ get_or tables k 0
  pub behind : (k : ℕ) → table_length * (number + 1) ≤ k → get_or tables' k 0 ≡ get_or tables k 0
  pub bytes : (g : TableReady alphabet automaton tables ranks present nodes number) (c : ℕ) → c < table_length
      → get_or tables' (table_length * number + c) 0 ≡ table_byte alphabet g.given.rules (transitions_of alphabet automaton) (state_count automaton) number c
