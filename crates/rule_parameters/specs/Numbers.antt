-- Which parameters of a rule are present, as flags: four for each rule.
use Rattle.std.specs.Prelude.{◌≡◌, Bool, false, List, ℕ, ◌+◌, ◌*◌, ◌≤◌, ◌<◌, length, get_or}
use Rattle.terms.specs.Check.{most_rules, highest_rank}
use Rattle.cleaning_terms.specs.Cleaning.{stands}

-- how many flags there are: four for each rule (02 R-3)
abbrev pub rule_flags : ℕ
rule_flags = highest_rank * most_rules

-- the flags of a rule, from its first place on, say which parameters stand among its nodes, and other flags are kept (02 R-3)
pub record PresentNoted (nodes : List ℕ) (rank first : ℕ) (present present' : List Bool) : Type 0 where
  pub long : length present' ≡ length present
  pub noted : (j : ℕ) → j < rank → get_or present' (first + j) false ≡ stands nodes j
  pub before : (k : ℕ) → k < first → get_or present' k false ≡ get_or present k false
  pub behind : (k : ℕ) → first + rank ≤ k → get_or present' k false ≡ get_or present k false
