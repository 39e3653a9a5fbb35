-- What is asked of a cleaned grammar (document 02, R-3): that it is non-deleting, and productive as far as rules are called (source document 000, section 5).
use Rattle.std.specs.Prelude.{◌≡◌, Bool, false, not, List, ℕ, ◌<◌, T, length}
use Rattle.terms.specs.Test.{all}
use Rattle.terms.specs.Grammar.{Name, terminal, nonterminal, parameter, nothing, name, Rule, rule_at, rule_rank, is_parameter, sum_over, Proper}
use Rattle.cleaning_terms.specs.Cleaning.{lone}

-- a node calls a rule that is a lone parameter (02 R-3)
abbrev pub calls_lone : List Rule → Name → Bool
calls_lone rules (terminal f) = false
calls_lone rules (nonterminal r) = lone (rule_at rules r).nodes
calls_lone rules (parameter j) = false
calls_lone rules nothing = false

-- rule i has each of its parameters exactly once, and calls no rule that is a lone parameter (02 R-3)
pub record CleanRule (rules : List Rule) (i : ℕ) : Type 0 where
  pub exact : (j : ℕ) → j < rule_rank rules i → sum_over (is_parameter j) (rule_at rules i).nodes ≡ 1
  pub calls : T (all (λ m. not (calls_lone rules (name m))) (rule_at rules i).nodes)

-- a grammar in which there is nothing to clean (02 R-3)
pub record Clean (alphabet : List ℕ) (rules : List Rule) : Type 0 where
  pub proper : Proper alphabet rules
  pub clean : (i : ℕ) → i < length rules → CleanRule rules i

-- each parameter of a rule occurs exactly once and no right side is a lone parameter, as was asked before R-3: such a grammar is clean (01 Refusals, 11 and 12)
pub record Strict (rules : List Rule) : Type 0 where
  pub once : (i : ℕ) → i < length rules → (j : ℕ) → j < rule_rank rules i → sum_over (is_parameter j) (rule_at rules i).nodes ≡ 1
  pub several : (i : ℕ) → i < length rules → lone (rule_at rules i).nodes ≡ false
