-- What it means that a parameter of a rule is present (document 02, R-3 and R-7).
use Rattle.std.specs.Prelude.{Bool, false, List, [], ◌∷◌, ℕ, suc, ◌+◌, ◌<◌, length, get_or}
use Rattle.terms.specs.Test.{tabulate}
use Rattle.terms.specs.Tree.{Tree, Forest, node, none, more, preorder}
use Rattle.terms.specs.Grammar.{Rule, rule_at, rule_rank, right_side, is_parameter, sum_over, apply}
use Rattle.cleaning_terms.specs.Cleaning.{present, sifted_rules}

-- trees of one node each (02 R-3)
unfoldable pub leaves : List ℕ → Forest
leaves [] = none
leaves (m ∷ ms) = more (node m none) (leaves ms)

-- what rule i derives where its parameters are left as they are: parameter j stands for itself (02 R-3)
unfoldable pub open_tree : List ℕ → List Rule → ℕ → Tree
open_tree alphabet rules i = apply (right_side alphabet rules) (suc i) i (leaves (tabulate (rule_rank rules i) (λ j. 0x80 + j)))

-- parameter j occurs in what rule i derives: what is written but handed to a rule that drops it does not (02 R-3)
unfoldable pub Occurs : List ℕ → List Rule → ℕ → ℕ → Type 0
Occurs alphabet rules i j = 0 < sum_over (is_parameter j) (preorder (open_tree alphabet rules i))

-- the same, computed (02 R-3)
unfoldable pub is_present : List ℕ → List Rule → ℕ → ℕ → Bool
is_present alphabet rules i j = get_or (present (rule_at (sifted_rules alphabet rules (length rules)) i)) j false
