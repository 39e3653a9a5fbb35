-- Scanning the nodes of right sides makes what building the right sides makes.
use mathlib.Core.Path.{◌≡◌, refl, sym, ◌∙◌, ap, ap₂}
use mathlib.Core.List.{List, [], ◌∷◌}
use Prim.Native.Nat.{ℕ, zero, suc, ◌≤◌}
use native.Mathlib.Omega.{arith}
use lib.ListN.{length}
use Rattle.terms.specs.Tree.{Forest, node, none, more, firsts, rest, forest_of, tree_of, wholes, exactly}
use Rattle.terms.specs.Grammar.{name, rule_at, rank_in, right_side, Proper}
use Rattle.terms.specs.Grammar.{Rule as Production}
use Rattle.terms.specs.Form.{Rule}
use Rattle.terms.proofs.Tree.Whole.{forest_is_tree}
use Rattle.skeletons.specs.Skeleton.{Skeleton, nil, cons}
use Rattle.skeletons.specs.Make.{Mades, name-made, build, builds, skeleton_of, extend, make}
use Rattle.skeletons.specs.Scan.{top, pop, turn, scan, scanned}

module _ (sk : ℕ → Skeleton) (rs : List Rule) where
  builds-rest : (k : ℕ) (ts : Forest) → (builds sk (rest k ts) rs).made ≡ pop k (builds sk ts rs).made
  unfolding builds rest
  builds-rest zero ts = refl
  builds-rest (suc k) none = refl
  builds-rest (suc k) (more t ts) = builds-rest k ts

  builds-firsts : (k : ℕ) (ts : Forest)
      → builds sk (firsts k ts) (builds sk (rest k ts) rs).rules ≡ record { rules = (builds sk ts rs).rules; made = top k (builds sk ts rs).made }
  unfolding builds firsts rest
  builds-firsts zero ts = refl
  builds-firsts (suc k) none = refl
  builds-firsts (suc k) (more t ts) =
      ap {A = Mades} {B = Mades} (λ m. let n = build sk t m.rules in record { rules = n.rules; made = cons n.made m.made }) (builds-firsts k ts)

  turn_right : (rank : ℕ → ℕ) (f : ℕ) (ts : Forest)
      → builds sk (more (node f (firsts (rank f) ts)) (rest (rank f) ts)) rs ≡ turn rank sk f (builds sk ts rs)
  unfolding builds build turn
  turn_right rank f ts =
      ap₂ {C = Mades} (λ m ss. let n = name-made sk (name f) m in record { rules = n.rules; made = cons n.made ss }) (builds-firsts (rank f) ts) (builds-rest (rank f) ts)

  -- what the stack holds in the end is what building the trees gives
  pub scan_right : (rank : ℕ → ℕ) (fs : List ℕ) → builds sk (forest_of rank fs) rs ≡ scan rank sk fs rs
  unfolding builds forest_of scan
  scan_right rank [] = refl
  scan_right rank (f ∷ fs) = turn_right rank f (forest_of rank fs) ∙ ap (turn rank sk f) (scan_right rank fs)

  -- the nodes of one whole tree
  pub scan-tree : (rank : ℕ → ℕ) (fs : List ℕ) → wholes rank fs ≡ exactly 1
      → let n = build sk (tree_of rank fs) rs in scan rank sk fs rs ≡ record { rules = n.rules; made = cons n.made nil }
  unfolding builds
  scan-tree rank fs e = sym (scan_right rank fs) ∙ ap (λ us. builds sk us rs) (forest_is_tree rank fs e)

-- it is what the right sides make
pub scanned_right : (alphabet : List ℕ) (rules : List Production) → Proper alphabet rules → (k : ℕ) → k ≤ length rules
    → scanned alphabet rules k ≡ make (right_side alphabet rules) k
unfolding scanned make extend right_side
scanned_right alphabet rules p zero h = refl
scanned_right alphabet rules p (suc k) h =
    let x = make (right_side alphabet rules) k in
    rw (scanned_right alphabet rules p k (omega arith), scan-tree (skeleton_of x) x.rules (rank_in alphabet rules) (rule_at rules k).nodes (p.proper k h).whole)
