-- The skeletons of the first rules of a grammar: how many there are, and what is known of each.
use mathlib.Core.Path.{◌≡◌, refl}
use mathlib.Core.List.{List, [], ◌∷◌}
use Prim.Native.Nat.{ℕ, zero, suc, ◌*◌, ◌-◌, ◌≤◌, ◌<◌}
use native.Mathlib.Omega.{arith}
use lib.ListN.{length, length-append, get_or-append}
use lib.Seq.{get_or_at}
use Rattle.terms.specs.Grammar.{Rule, rule_at, rule_rank, rank_in, right_side, Proper}
use Rattle.terms.specs.Form.{Rule as FormRule}
use Rattle.skeletons.specs.Skeleton.{Skeleton, Skeletons, param, shut, under, branch, nil, cons, nth}
use Rattle.skeletons.specs.Make.{Form, skeleton_of}
use Rattle.skeletons.specs.Scan.{scan, scanned}
use Rattle.skeletons.specs.Skeleton.{weight}
use Rattle.skeletons.proofs.Good.{Good, Goods}
use Rattle.skeletons.proofs.Scan.{scanned_right}
use Rattle.skeletons.proofs.Occurrence.{weight-linear}
use Rattle.skeletons.proofs.Correct.{make_correct, make-few}
use Rattle.skeletons.proofs.Result.{fine, once}
use Rattle.contraction.specs.Substitution.{Bounded, AllBounded}

-- the parameters of a good skeleton are below its rank
module _ (alphabet : List ℕ) (rs : List FormRule) (n : ℕ) where
  mutual
    bounded_good : (s : Skeleton) → Good alphabet rs n s → Bounded n s
    bounded_good (param i) g = g
    bounded_good (shut a) g = tt
    bounded_good (under c s) g = bounded_good s g.2
    bounded_good (branch f ss) g = all-bounded ss g.2

    all-bounded : (ss : Skeletons) → Goods alphabet rs n ss → AllBounded n ss
    all-bounded nil g = tt
    all-bounded (cons s ss) g = (bounded_good s g.0, all-bounded ss g.1)

module _ (alphabet : List ℕ) (rules : List Rule) where
  abbrev made : ℕ → Form
  made i = scanned alphabet rules i

  counts : (i : ℕ) → length (made i).skeletons ≡ i
  unfolding scanned
  counts zero = refl
  counts (suc i) = omega (arith, length-append (made i).skeletons (nth (scan (rank_in alphabet rules) (skeleton_of (made i)) (rule_at rules i).nodes (made i).rules).made 0 ∷ []), counts i)

  -- one skeleton more
  pub old-skeleton : (i r : ℕ) → r < i → skeleton_of (made (suc i)) r ≡ skeleton_of (made i) r
  unfolding scanned
  old-skeleton i r h = get_or-append (made i).skeletons _ (branch 0 nil) r (omega (arith, counts i))

  pub new-skeleton : (i : ℕ) → skeleton_of (made (suc i)) i ≡ nth (scan (rank_in alphabet rules) (skeleton_of (made i)) (rule_at rules i).nodes (made i).rules).made 0
  unfolding scanned
  new-skeleton i = get_or_at (made i).skeletons _ [] (branch 0 nil) i (counts i)

  module _ (p : Proper alphabet rules) (k : ℕ) (few : k ≤ length rules) (r : ℕ) (h : r < k) where
    good : Good alphabet (made k).rules (rule_rank rules r) (skeleton_of (made k) r)
    good = rw (scanned_right alphabet rules p k few) ((make_correct alphabet (rule_rank rules) (right_side alphabet rules) k (λ i l. fine alphabet rules p i (omega arith))).good r h)

    pub lower-bounded : Bounded (rule_rank rules r) (skeleton_of (made k) r)
    lower-bounded = bounded_good alphabet (made k).rules (rule_rank rules r) (skeleton_of (made k) r) good

    pub lower-light : weight (skeleton_of (made k) r) ≤ 4 * rule_rank rules r - 3
    lower-light =
        weight-linear alphabet (made k).rules (rule_rank rules r) (skeleton_of (made k) r) good
        (rw (scanned_right alphabet rules p k few) ((make-few alphabet (rule_rank rules) (right_side alphabet rules) k (λ i l. fine alphabet rules p i (omega arith)) (λ i l. once alphabet rules p i (omega arith))).linear r h))
