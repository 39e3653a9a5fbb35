-- What R-3 promises of cleaning (document 02).
use Rattle.std.specs.Prelude.{◌≡◌, true, ◌↔◌, List, ℕ, suc, ◌≤◌, ◌<◌, length}
use Rattle.terms.specs.Tree.{Forest, count, pick, preorder}
use Rattle.terms.specs.Grammar.{Name, Rule, rule_at, rule_rank, right_side, sum_over, apply, derived}
use Rattle.terms.specs.Form.{form_bound}
use Rattle.cleaning_terms.specs.Cleaning.{cleaned}
use Rattle.cleaning_terms.specs.Clean.{Clean}
use Rattle.cleaning_terms.specs.Presence.{Occurs, is_present}

-- rule i drops no argument: whatever is counted in the tree of an argument is counted in what the rule derives from it (02 R-3)
abbrev pub DropsNone : List ℕ → List Rule → ℕ → Type 0
DropsNone alphabet rules i =
    (g : Name → ℕ) (args : Forest) → count args ≡ rule_rank rules i → (q : ℕ) → q < rule_rank rules i
    → sum_over g (preorder (pick args q)) ≤ sum_over g (preorder (apply (right_side alphabet rules) (suc i) i args))

-- the cleaned grammar derives the same tree, is clean, has as many rules, rule by rule no more nodes, and no higher sum (R-6) than as written, and none of its
-- rules drops an argument; a parameter is kept exactly where it occurs in what its rule derives; and a grammar that is clean stays as it is (02 R-3)
pub record CleaningRight (alphabet : List ℕ) (rules : List Rule) : Type 0 where
  pub tree : derived alphabet (cleaned alphabet rules) ≡ derived alphabet rules
  pub clean : Clean alphabet (cleaned alphabet rules)
  pub as_many : length (cleaned alphabet rules) ≡ length rules
  pub nodes : (i : ℕ) → i < length rules → length (rule_at (cleaned alphabet rules) i).nodes ≤ length (rule_at rules i).nodes
  pub bound : form_bound (cleaned alphabet rules) ≤ form_bound rules
  pub whole : (i : ℕ) → i < length rules → DropsNone alphabet (cleaned alphabet rules) i
  pub presence : (i : ℕ) → i < length rules → (j : ℕ) → (is_present alphabet rules i j ≡ true) ↔ Occurs alphabet rules i j
  pub same : Clean alphabet rules → cleaned alphabet rules ≡ rules
