-- The relation of a right side, node by node from the last to the first, where the tables of the lower rules are there.
use Rattle.std.specs.Prelude.{◌≡◌, Bool, false, ◌&&◌, List, ℕ, ◌+◌, ◌*◌, ◌≤◌, ◌<◌, T, ltb, length, get_or, take, drop}
use Rattle.terms.specs.Grammar.{Name, terminal, nonterminal, parameter, nothing, Rule, rule_at, rule_rank, terminal_rank, Proper}
use Rattle.terms.specs.Sheet.{state_count, transitions_of}
use Rattle.terms.specs.Check.{most_rules, most_nodes, highest_rank, alphabet_refusal, automaton_refusal}
use Rattle.cleaning.specs.Sifting.{Noted}
use Rattle.blackboard_terms.specs.Blackboard.{is_choice, table_byte, table_length}
use Rattle.blackboard_terms.specs.Step.{entered, call_states, LanesAre}

-- the states of a call of rule r on arguments with the sets ms, from its table among those of the rules, and from the flags of its parameters (02 R-7)
abbrev pub call_in : List ℕ → List Bool → ℕ → List ℕ → ℕ
call_in tables present r ms =
    call_states (take table_length (drop (table_length * r) tables)) (entered (λ j. ltb j (length ms) && get_or present (highest_rank * r + j) false) ms)

-- the relation of a node can be worked out from those of its children (02 R-7)
abbrev pub NodeReady : List ℕ → List ℕ → List ℕ → ℕ → Name → Type 0
NodeReady alphabet tables children lanes (terminal f) = (f < length alphabet) × (terminal_rank alphabet f ≡ length children) × (lanes ≤ 8)
NodeReady alphabet tables children lanes (nonterminal r) = (table_length * (r + 1) ≤ length tables) × (r < most_rules) × (lanes ≤ 8)
NodeReady alphabet tables children lanes (parameter j) = (j < highest_rank) × (lanes ≤ 8)
NodeReady alphabet tables children lanes nothing = ⊥

-- the tables of the rules below a number stand one behind the other (02 R-7)
pub record TablesBelow (alphabet automaton : List ℕ) (rules : List Rule) (number : ℕ) (tables : List ℕ) : Type 0 where
  pub long : table_length * number ≤ length tables
  pub bytes : (r c : ℕ) → r < number → c < table_length
      → get_or tables (table_length * r + c) 0 ≡ table_byte alphabet rules (transitions_of alphabet automaton) (state_count automaton) r c

-- the nodes are those of the rule of a number in a grammar, and the lower rules are noted and have their tables (02 R-7)
pub record RuleGiven (alphabet automaton tables ranks : List ℕ) (present : List Bool) (nodes : List ℕ) (number : ℕ) : Type 0 where
  pub rules : List Rule
  pub alone : List Bool
  pub alphabet-passes : alphabet_refusal alphabet ≡ 0
  pub automaton_passes : automaton_refusal alphabet automaton ≡ 0
  pub proper : Proper alphabet rules
  pub inside : number < length rules
  pub rule_nodes : nodes ≡ (rule_at rules number).nodes
  pub few : length nodes ≤ most_nodes
  pub noted : Noted alphabet rules number ranks present alone
  pub below : TablesBelow alphabet automaton rules number tables

-- such a rule, and states of its parameters behind the first with which each of the first lanes is a choice (02 R-7)
pub record SideReady (alphabet automaton tables ranks : List ℕ) (present : List Bool) (nodes : List ℕ) (choice lanes : ℕ) : Type 0 where
  pub number : ℕ
  pub given : RuleGiven alphabet automaton tables ranks present nodes number
  pub eight : lanes ≤ 8
  pub choices : (p : ℕ) → p < lanes → T (is_choice (state_count automaton) (rule_rank given.rules number) (8 * choice + p))

-- the first lanes of a number are the bytes of the rule's table for these choices (02 R-7)
abbrev pub SideRelated : {alphabet automaton tables ranks : List ℕ} {present : List Bool} {nodes : List ℕ} {choice lanes : ℕ}
    → SideReady alphabet automaton tables ranks present nodes choice lanes → ℕ → Type 0
SideRelated {alphabet = alphabet} {automaton = automaton} {choice = choice} {lanes = lanes} g x =
    LanesAre lanes x (λ p. table_byte alphabet g.given.rules (transitions_of alphabet automaton) (state_count automaton) g.number (8 * choice + p))
