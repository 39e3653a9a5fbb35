-- What is claimed of a form of a grammar.
use Rattle.std.specs.Prelude.{◌≡◌, List, ℕ, ◌≤◌, length}
use Rattle.terms.specs.Grammar.{derived}
use Rattle.terms.specs.Grammar.{Rule as Production}
use Rattle.terms.specs.Form.{Rule, Has, Valid, closed, value_at, form_bound}

-- the rules are a valid form, of which rule start derives the grammar's tree, and there are no more of them than the sum over the grammar (01 One-hole form, 02 R-6)
pub record FormOf (alphabet : List ℕ) (grammar : List Production) (rules : List Rule) (start : ℕ) : Type 0 where
  pub valid : Valid alphabet rules
  pub from : Has rules (length rules) 0 start
  pub derives : value_at rules start ≡ closed (derived alphabet grammar)
  pub few : length rules ≤ form_bound grammar
