-- For each rule, a yes or no for every choice of states at its parameters and root (document 02, R-7; source document 003, Theorem 1).
use Rattle.std.specs.Prelude.{Bool, cond, List, [], ◌∷◌, ◌++◌, ◌≡◌, ℕ, ◌+◌, ◌*◌, ◌/◌, ◌%◌, ◌^◌, ◌≤◌, ◌<◌, eqb, ltb, length}
use Rattle.terms.specs.Test.{every, tabulate, joined}
use Rattle.terms.specs.Refusal.{◌when◌, first}
use Rattle.terms.specs.Grammar.{Rule, rule_rank}
use Rattle.terms.specs.Automaton.{Transition, Run, mask}
use Rattle.terms.specs.Sheet.{alphabet_of, rules_of, automaton_of, state_count, transitions_of}
use Rattle.terms.specs.Check.{sheet_refusal, highest_rank}
use Rattle.cleaning_terms.specs.Presence.{open_tree}

-- Runs that enter at parameters. In what a rule derives with its parameters left standing (`open_tree`), parameter j, counted from 0, is a node of its own.

-- for each of n parameters, the one transition of its node: to the state ps j (02 R-7)
unfoldable pub entering : ℕ → (ℕ → ℕ) → List Transition
entering n ps = tabulate n (λ j. record { terminal = 0x80 + j; target = ps j; children = [] })

-- the transitions of an automaton, and those by which a run enters at the parameters of rule i in the states ps (02 R-7)
abbrev pub opened : List Rule → List Transition → ℕ → (ℕ → ℕ) → List Transition
opened rules δ i ps = δ ++ entering (rule_rank rules i) ps

-- a run on what rule i derives that enters at each present parameter j in the state ps j, and gives the root the state q; a parameter that is absent is not asked about (02 R-7)
abbrev pub RunEntering : List ℕ → List Rule → List Transition → ℕ → (ℕ → ℕ) → ℕ → Type 0
RunEntering alphabet rules δ i ps q = Run (opened rules δ i ps) (open_tree alphabet rules i) q

-- the bit of rule i for the states ps at its parameters and q at its root is set: these are states, parameters that the rule does not have count as 0, and a run exists (02 R-7)
pub record BitSet (alphabet : List ℕ) (rules : List Rule) (δ : List Transition) (Q i : ℕ) (ps : ℕ → ℕ) (q : ℕ) : Type 0 where
  pub root : q < Q
  pub own : (j : ℕ) → j < rule_rank rules i → ps j < Q
  pub others : (j : ℕ) → j < highest_rank → rule_rank rules i ≤ j → ps j ≡ 0
  pub run : RunEntering alphabet rules δ i ps q

-- The table of a rule: byte c has the states at the root for choice c of states at the parameters.

-- the state of parameter j in choice c: the digits of c to the base 8, the lowest for the first parameter (02 R-7)
unfoldable pub state_at : ℕ → ℕ → ℕ
state_at c j = c / 8 ^ j % 8

-- choice c has one of the Q states for each parameter of a rule of rank n, and 0 for the parameters that the rule does not have (02 R-7)
unfoldable pub is_choice : ℕ → ℕ → ℕ → Bool
is_choice Q n c = every highest_rank (λ j. cond (ltb j n) (ltb (state_at c j) Q) (eqb (state_at c j) 0))

-- byte c of rule i: the states at the root of what the rule derives where runs enter by choice c, and none where c is no choice (02 R-7)
unfoldable pub table_byte : List ℕ → List Rule → List Transition → ℕ → ℕ → ℕ → ℕ
table_byte alphabet rules δ Q i c = cond (is_choice Q (rule_rank rules i) c) (mask (opened rules δ i (state_at c)) (open_tree alphabet rules i)) 0

-- how many bytes the table of a rule has (02 R-7)
abbrev pub table_length : ℕ
table_length = 4096

-- the table of rule i (02 R-7)
unfoldable pub rule_table : List ℕ → List Rule → List Transition → ℕ → ℕ → List ℕ
rule_table alphabet rules δ Q i = tabulate table_length (table_byte alphabet rules δ Q i)

-- the tables of a sheet's rules, one behind the other (02 R-7)
unfoldable pub tables_of : List ℕ → List ℕ
tables_of s = joined (length (rules_of s)) (rule_table (alphabet_of s) (rules_of s) (transitions_of (alphabet_of s) (automaton_of s)) (state_count (automaton_of s)))

-- the blackboard method: 1 to 16, 19 (02 R-7)
unfoldable pub blackboard_refusal : List ℕ → ℕ → ℕ
blackboard_refusal s room = first (sheet_refusal s ∷ 19 when (ltb room (table_length * length (rules_of s))) ∷ [])
