-- A test of rules, by their parameter counts, that is enough to know that there is nothing to clean.
use Rattle.std.specs.Prelude.{Bool, not, cond, ◌&&◌, List, ℕ, eqb}
use Rattle.terms.specs.Test.{all}
use Rattle.terms.specs.Grammar.{Rule, any_parameter, sum_over}
use Rattle.cleaning_terms.specs.Cleaning.{lone}

-- how many parameters stand among the nodes (02 R-3)
abbrev pub parameter_count : List ℕ → ℕ
parameter_count nodes = sum_over (λ x. cond (any_parameter x) 1 0) nodes

-- a rule has as many parameters among its nodes as its rank, and is no lone parameter (02 R-3)
abbrev pub strict_rule : Rule → Bool
strict_rule r = eqb (parameter_count r.nodes) r.rank && not (lone r.nodes)

-- every rule is of that kind (02 R-3)
abbrev pub strict : List Rule → Bool
strict rules = all strict_rule rules
