-- A set for each node of a right side from those of its children, and the same by a scan of the nodes with a stack.
use mathlib.Core.Path.{◌≡◌, refl, ◌∙◌, ap}
use mathlib.Core.List.{List, [], ◌∷◌}
use Prim.Native.Nat.{ℕ, zero, suc}
use lib.ListN.{take, drop}
use Rattle.terms.specs.Tree.{Tree, Forest, node, none, more, firsts, rest, forest_of}
use Rattle.terms.specs.Grammar.{Name, name, Rule, rule_at, rank_in, right_side, ProperRule}
use Rattle.terms.proofs.Tree.Whole.{forest_is_tree}
use Rattle.blackboard_terms.specs.Step.{scanned}

unfoldable mutual
  -- a number for a right side, where alg gives one for a node from those of its children
  pub folded : (List ℕ → Name → ℕ) → Tree → ℕ
  folded alg (node n ts) = alg (folded_all alg ts) (name n)

  pub folded_all : (List ℕ → Name → ℕ) → Forest → List ℕ
  folded_all alg none = []
  folded_all alg (more t ts) = folded alg t ∷ folded_all alg ts

module _ (alg : List ℕ → Name → ℕ) where
  folded_firsts : (n : ℕ) (ts : Forest) → folded_all alg (firsts n ts) ≡ take n (folded_all alg ts)
  unfolding folded_all firsts
  folded_firsts zero ts = refl
  folded_firsts (suc n) none = refl
  folded_firsts (suc n) (more t ts) = ap (λ (ms : List ℕ). folded alg t ∷ ms) (folded_firsts n ts)

  folded_rest : (n : ℕ) (ts : Forest) → folded_all alg (rest n ts) ≡ drop n (folded_all alg ts)
  unfolding folded_all rest
  folded_rest zero ts = refl
  folded_rest (suc n) none = refl
  folded_rest (suc n) (more t ts) = folded_rest n ts

  -- the stack after a scan has the numbers of the trees that the nodes describe
  scan_forest : (rank : ℕ → ℕ) (ns : List ℕ) → scanned alg rank ns ≡ folded_all alg (forest_of rank ns)
  unfolding scanned folded_all folded forest_of
  scan_forest rank [] = refl
  scan_forest rank (n ∷ ns) =
      let ts = forest_of rank ns in
      rw (scan_forest rank ns, ← (folded_firsts (rank n) ts), ← (folded_rest (rank n) ts))

  -- for a proper rule, the number of its right side
  pub scan-rule : (alphabet : List ℕ) (rules : List Rule) (i : ℕ) → ProperRule alphabet rules i
      → scanned alg (rank_in alphabet rules) (rule_at rules i).nodes ≡ folded alg (right_side alphabet rules i) ∷ []
  unfolding folded_all right_side
  scan-rule alphabet rules i p =
      scan_forest (rank_in alphabet rules) (rule_at rules i).nodes ∙ ap (folded_all alg) (forest_is_tree (rank_in alphabet rules) (rule_at rules i).nodes p.whole)
