-- How many rules the steps add, and how heavy a skeleton in normal form is.
use mathlib.Core.Path.{◌≡◌, refl}
use mathlib.Core.List.{List, [], ◌∷◌, ◌++◌}
use Prim.Native.Nat.{ℕ, ◌+◌, ◌*◌, ◌-◌, ◌≤◌, ◌<◌}
use native.Mathlib.Omega.{arith}
use lib.ListN.{length}
use Rattle.terms.specs.Tree.{Tree, Forest, node, none, more, preorder, preorders, count}
use Rattle.terms.specs.Grammar.{Name, terminal, nonterminal, parameter, nothing, name, sum_over}
use Rattle.terms.specs.Form.{Rule, whole, pierced, filled, composed, share}
use Rattle.terms.proofs.Grammar.Sum.{sum_over_append}
use Rattle.terms.proofs.Grammar.Fine.{FineName, Fine, Fines}
use Rattle.terms.proofs.Form.Valid.{length-end}
use Rattle.skeletons.specs.Skeleton.{Skeleton, Skeletons, param, shut, under, branch, nil, cons}
use Rattle.skeletons.specs.Make.{Mades, Sort, closed, single, several, sort, contract_chain, contract_terminal_by, contract_terminal, substitute, substitutes, name-made, build, builds}
use Rattle.skeletons.proofs.Skeleton.{openness, opens, total, totals}
use Rattle.skeletons.specs.Skeleton.{weight, weights}
use Rattle.skeletons.proofs.Good.{Plain, Good, Goods}

-- the rules that the steps add

pub contract_chain_cost : (rs : List Rule) (c : ℕ) (s : Skeleton) → length (contract_chain rs c s).rules ≤ length rs + 1
unfolding contract_chain
contract_chain_cost rs c (param i) = omega arith
contract_chain_cost rs c (shut a) = omega (arith, length-end rs (filled c a))
contract_chain_cost rs c (under d s) = omega (arith, length-end rs (composed c d))
contract_chain_cost rs c (branch f ss) = omega arith

contract_terminal_by_cost : (rs : List Rule) (f : ℕ) (ss : Skeletons) (x : Sort) → length (contract_terminal_by rs f ss x).rules ≤ length rs + 2
unfolding contract_terminal_by
contract_terminal_by_cost rs f ss (closed slots) = omega (arith, length-end rs (whole f slots))
contract_terminal_by_cost rs f ss (single ls s us) = omega (arith, contract_chain_cost (rs ++ (pierced f ls us ∷ [])) (length rs) s, length-end rs (pierced f ls us))
contract_terminal_by_cost rs f ss several = omega arith

pub contract_terminal_cost : (rs : List Rule) (f : ℕ) (ss : Skeletons) → length (contract_terminal rs f ss).rules ≤ length rs + 2
unfolding contract_terminal
contract_terminal_cost rs f ss = contract_terminal_by_cost rs f ss (sort ss)

module _ (args : Skeletons) where
  mutual
    unfolding substitute substitutes

    pub substitute_cost : (s : Skeleton) (rs : List Rule) → length (substitute args s rs).rules ≤ length rs + weight s
    substitute_cost (param i) rs = omega arith
    substitute_cost (shut a) rs = omega arith
    substitute_cost (under c s) rs = let m = substitute args s rs in omega (arith, contract_chain_cost m.rules c m.made, substitute_cost s rs)
    substitute_cost (branch f ss) rs = let m = substitutes args ss rs in omega (arith, contract_terminal_cost m.rules f m.made, substitutes_cost ss rs)

    substitutes_cost : (ss : Skeletons) (rs : List Rule) → length (substitutes args ss rs).rules ≤ length rs + weights ss
    substitutes_cost nil rs = omega arith
    substitutes_cost (cons s ss) rs = let m = substitutes args ss rs in omega (arith, substitutes_cost ss rs, substitute_cost s m.rules)

-- a right side adds at most the sum of its nodes' shares, where the skeletons of the lower rules weigh no more than theirs
module _ (alphabet : List ℕ) (ranks : ℕ → ℕ) (i n : ℕ) (sk : ℕ → Skeleton) (hw : (r : ℕ) → r < i → weight (sk r) ≤ 4 * ranks r - 3) where
  name_made_cost : (x : Name) (k c : ℕ) (rs : List Rule) (m : Mades) → FineName alphabet ranks i n x k → length m.rules ≤ length rs + c
      → length (name-made sk x m).rules ≤ length rs + (share ranks x + c)
  unfolding name-made
  name_made_cost (terminal f) k c rs m e h = omega (arith, contract_terminal_cost m.rules f m.made)
  name_made_cost (nonterminal r) k c rs m e h = omega (arith, substitute_cost m.made (sk r) m.rules, hw r e.0)
  name_made_cost (parameter j) k c rs m e h = omega arith
  name_made_cost nothing k c rs m e h = absurd e

  mutual
    unfolding build builds preorder preorders

    pub build_cost : (t : Tree) (rs : List Rule) → Fine alphabet ranks i n t → length (build sk t rs).rules ≤ length rs + sum_over (share ranks) (preorder t)
    build_cost (node m ts) rs e =
        name_made_cost (name m) (count ts) (sum_over (share ranks) (preorders ts)) rs (builds sk ts rs) e.0 (builds_cost ts rs e.1)

    builds_cost : (ts : Forest) (rs : List Rule) → Fines alphabet ranks i n ts
        → length (builds sk ts rs).rules ≤ length rs + sum_over (share ranks) (preorders ts)
    builds_cost none rs e = omega arith
    builds_cost (more t ts) rs e =
        omega (arith, builds_cost ts rs e.1, build_cost t (builds sk ts rs).rules e.0, sum_over_append (share ranks) (preorder t) (preorders ts))

-- the number of parameters that occur
abbrev pub one : ℕ → ℕ
one i = 1

-- a skeleton in normal form with n parameters weighs at most 4n - 3, and 4n - 4 if it is not under a rule
module _ (alphabet : List ℕ) (rs : List Rule) (n : ℕ) where
  mutual
    pub weight_open : (s : Skeleton) → Good alphabet rs n s → weight s + 3 * openness s ≤ 4 * total one s
    weight_open (param i) g = omega arith
    weight_open (shut a) g = omega arith
    weight_open (under c s) g = omega (arith, weight_plain s g.1 g.2)
    weight_open (branch f ss) g = omega (arith, weights_open ss g.2)

    pub weight_plain : (s : Skeleton) → Plain s → Good alphabet rs n s → weight s + 4 ≤ 4 * total one s
    weight_plain (param i) p g = omega arith
    weight_plain (shut a) p g = absurd p
    weight_plain (under c s) p g = absurd p
    weight_plain (branch f ss) p g = omega (arith, weights_open ss g.2)

    pub weights_open : (ss : Skeletons) → Goods alphabet rs n ss → weights ss + 3 * opens ss ≤ 4 * totals one ss
    weights_open nil g = omega arith
    weights_open (cons s ss) g = omega (arith, weight_open s g.0, weights_open ss g.1)

  pub weight-bound : (s : Skeleton) → Good alphabet rs n s → weight s ≤ 4 * total one s - 3
  weight-bound (param i) g = omega arith
  weight-bound (shut a) g = omega arith
  weight-bound (under c s) g = omega (arith, weight_open (under c s) g)
  weight-bound (branch f ss) g = omega (arith, weight_open (branch f ss) g)

  -- with no parameter it is closed
  pub shut_of_none : (s : Skeleton) → Good alphabet rs n s → total one s ≡ 0 → (a : ℕ) × (s ≡ shut a)
  shut_of_none (param i) g e = absurd (omega arith)
  shut_of_none (shut a) g e = (a, refl)
  shut_of_none (under c s) g e = absurd (omega (arith, weight_open (under c s) g))
  shut_of_none (branch f ss) g e = absurd (omega (arith, weight_open (branch f ss) g))

module _ (alphabet : List ℕ) (rs : List Rule) (h : ℕ → ℕ) where
  mutual
    none_below : (s : Skeleton) → Good alphabet rs 0 s → total h s ≡ 0
    none_below (param i) g = absurd (omega arith)
    none_below (shut a) g = refl
    none_below (under c s) g = none_below s g.2
    none_below (branch f ss) g = nones_below ss g.2

    nones_below : (ss : Skeletons) → Goods alphabet rs 0 ss → totals h ss ≡ 0
    nones_below nil g = refl
    nones_below (cons s ss) g = omega (arith, none_below s g.0, nones_below ss g.1)

-- the skeleton of a rule of rank 0 is closed
pub shut_of_rank_zero : (alphabet : List ℕ) (rs : List Rule) (s : Skeleton) → Good alphabet rs 0 s → (a : ℕ) × (s ≡ shut a)
shut_of_rank_zero alphabet rs s g = shut_of_none alphabet rs 0 s g (none_below alphabet rs one s g)
