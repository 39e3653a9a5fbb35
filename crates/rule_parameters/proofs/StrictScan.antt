-- How the code tells rules with nothing to clean: a lone parameter, the number of parameters, and the rules of a body one after another.
use mathlib.Core.Path.{◌≡◌, refl}
use mathlib.Core.Bool.{Bool, true, false, cond, ◌&&◌}
use mathlib.Core.List.{List, [], ◌∷◌}
use Prim.Native.Nat.{ℕ, ◌+◌}
use native.Mathlib.Omega.{arith}
use lib.ListN.{length, get_or}
use Rattle.std.specs.List.{count_by, list_all}
use Rattle.std.proofs.lemmas.List.Recursion.{is_count_by, same_from_clauses}
use Rattle.terms.specs.Test.{all}
use Rattle.terms.specs.Grammar.{name, any_parameter}
use Rattle.cleaning_terms.specs.Cleaning.{lone}
use Rattle.rule_parameters.specs.Strict.{parameter_count}

-- more or fewer nodes than one are no lone parameter
pub not_lone : (nodes : List ℕ) → (length nodes ≡ 1 → ⊥) → false ≡ lone nodes
not_lone [] h = refl
not_lone (m ∷ []) h = absurd (h refl)
not_lone (m ∷ n ∷ nodes) h = refl

-- one node is a lone parameter where it is a parameter
pub lone-node : (nodes : List ℕ) → length nodes ≡ 1 → lone nodes ≡ any_parameter (name (get_or nodes 0 0))
lone-node [] h = absurd (omega arith)
lone-node (m ∷ []) h = refl
lone-node (m ∷ n ∷ nodes) h = absurd (omega arith)

-- how many parameters stand among the nodes, in std's word
pub parameters-count : (nodes : List ℕ) → parameter_count nodes ≡ count_by (λ m. any_parameter (name m)) nodes
parameters-count = is_count_by parameter_count (λ m. any_parameter (name m)) refl (λ m ms. step (any_parameter (name m)) (parameter_count ms))
  where
    step : (b : Bool) (n : ℕ) → cond b 1 0 + n ≡ cond b (1 + n) n
    step true n = refl
    step false n = omega arith

-- the test of every element, in std's word
pub all-std : {A : Type 0} (p : A → Bool) (xs : List A) → list_all p xs ≡ all p xs
unfolding all
all-std p = same_from_clauses (list_all p) (all p) (λ x b. p x && b) refl (λ _ _. refl) (λ _ _. refl)
