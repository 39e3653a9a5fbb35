-- The form made from right sides is valid, derives what they derive, and has few rules.
use mathlib.Core.Path.{◌≡◌, refl, sym, ◌∙◌, ap, subst}
use mathlib.Core.List.{List, [], ◌∷◌}
use mathlib.Core.Logic.{◌⊎◌, inl, inr}
use Prim.Native.Nat.{ℕ, zero, suc, ◌+◌, ◌*◌, ◌-◌, ◌≤◌, ◌<◌}
use native.Mathlib.Omega.{arith}
use native.Mathlib.Nat.{eq-or-lt_of_le}
use lib.ListN.{length, length-append, get_or-append}
use lib.Seq.{get_or_at}
use Rattle.terms.specs.Tree.{Tree, Forest, none, preorder}
use Rattle.terms.specs.Grammar.{value, apply, sum_over}
use Rattle.terms.specs.Form.{tree_in, value_at, share, Has, Valid}
use Rattle.terms.proofs.Grammar.Sum.{sum_below}
use Rattle.terms.proofs.Grammar.Fine.{Fine}
use Rattle.skeletons.specs.Skeleton.{shut, branch, nil}
use Rattle.skeletons.specs.Make.{Form, skeleton_of, build, extend, make}
use Rattle.skeletons.proofs.Skeleton.{sem}
use Rattle.skeletons.specs.Skeleton.{weight}
use Rattle.terms.proofs.Form.Valid.{Later}
use Rattle.skeletons.proofs.Good.{Good, good_later, sem_later}
use Rattle.skeletons.proofs.Step.{Step}
use Rattle.skeletons.proofs.Build.{Knows, build-step}
use Rattle.skeletons.proofs.Weight.{build_cost, shut_of_rank_zero}
use Rattle.skeletons.proofs.Occurrence.{spot, Linear, Once, weight-linear, build-total}

-- a form x of the first k rules of a grammar
pub record Correct (alphabet : List ℕ) (ranks : ℕ → ℕ) (rhs : ℕ → Tree) (k : ℕ) (x : Form) : Type 0 where
  pub valid : Valid alphabet x.rules
  pub count : length x.skeletons ≡ k
  pub good : (i : ℕ) → i < k → Good alphabet x.rules (ranks i) (skeleton_of x i)
  -- rules call lower rules only, so more steps than the number of the rule are enough
  pub means : (i : ℕ) → i < k → (m : ℕ) → i < m → (args : Forest) → sem x.rules args (skeleton_of x i) ≡ apply rhs m i args

-- with as many rules as c at most, and no parameter twice in a skeleton
pub record Few (k c : ℕ) (x : Form) : Type 0 where
  pub linear : (i : ℕ) → i < k → Linear (skeleton_of x i)
  pub few : length x.rules ≤ c

extend-old : (x : Form) (t : Tree) (i : ℕ) → i < length x.skeletons → skeleton_of (extend x t) i ≡ skeleton_of x i
unfolding extend
extend-old x t i h = get_or-append x.skeletons ((build (skeleton_of x) t x.rules).made ∷ []) (branch 0 nil) i h

extend-new : (x : Form) (t : Tree) (k : ℕ) → length x.skeletons ≡ k → skeleton_of (extend x t) k ≡ (build (skeleton_of x) t x.rules).made
unfolding extend
extend-new x t k e = get_or_at x.skeletons (build (skeleton_of x) t x.rules).made [] (branch 0 nil) k e

module _ (alphabet : List ℕ) (ranks : ℕ → ℕ) (rhs : ℕ → Tree) (k : ℕ) (x : Form) (c : Correct alphabet ranks rhs k x) (fine : Fine alphabet ranks k (ranks k) (rhs k)) where
  knows : (m : ℕ) → k ≤ m → Knows alphabet ranks k (skeleton_of x) (apply rhs m) x.rules
  knows m h = record { good = c.good; means = λ r l ts. c.means r l m (omega arith) ts }

  step : (m : ℕ) → k ≤ m → Step alphabet x.rules (ranks k) (build (skeleton_of x) (rhs k) x.rules) (λ args. value (apply rhs m) args (rhs k))
  step m h = build-step alphabet ranks k (skeleton_of x) (apply rhs m) (ranks k) (rhs k) x.rules fine c.valid (knows m h)

  abbrev next : Form
  next = extend x (rhs k)

  extend_later : Later x.rules next.rules
  unfolding extend
  extend_later = (step k (omega arith)).later

  good_new : Good alphabet next.rules (ranks k) (skeleton_of next k)
  unfolding extend
  good_new = rw (extend-new x (rhs k) k c.count) (step k (omega arith)).good

  means_new : (m : ℕ) → k < m → (args : Forest) → sem next.rules args (skeleton_of next k) ≡ apply rhs m k args
  unfolding extend apply
  means_new zero h args = absurd (omega arith)
  means_new (suc m) h args = ap (sem next.rules args) (extend-new x (rhs k) k c.count) ∙ (step m (omega arith)).means args

  good_next : (i : ℕ) → (i ≡ k) ⊎ (i < k) → Good alphabet next.rules (ranks i) (skeleton_of next i)
  good_next i (inl e) = rw e good_new
  good_next i (inr h) = rw (extend-old x (rhs k) i (omega (arith, c.count))) (good_later alphabet extend_later (ranks i) (skeleton_of x i) (c.good i h))

  means_next : (i : ℕ) → (i ≡ k) ⊎ (i < k) → (m : ℕ) → i < m → (args : Forest) → sem next.rules args (skeleton_of next i) ≡ apply rhs m i args
  means_next i (inl e) m h args = rw e (means_new m (omega arith) args)
  means_next i (inr l) m h args =
      ap (sem next.rules args) (extend-old x (rhs k) i (omega (arith, c.count)))
      ∙ sem_later c.valid extend_later (ranks i) args (skeleton_of x i) (c.good i l) ∙ c.means i l m h args

  count_next : length next.skeletons ≡ suc k
  unfolding extend
  count_next = omega (arith, length-append x.skeletons ((build (skeleton_of x) (rhs k) x.rules).made ∷ []), c.count)

  valid-next : Valid alphabet next.rules
  unfolding extend
  valid-next = (step k (omega arith)).valid

  correct_next : Correct alphabet ranks rhs (suc k) next
  correct_next = record {
    valid = valid-next;
    count = count_next;
    good = λ i h. good_next i (eq-or-lt_of_le (omega arith));
    means = λ i h. means_next i (eq-or-lt_of_le (omega arith));
  }

  module _ (once : Once (rhs k)) (b : ℕ) (s : Few k b x) where
    linear-new : Linear (skeleton_of next k)
    linear-new i =
        rw (extend-new x (rhs k) k c.count) (omega (arith, build-total alphabet ranks k (ranks k) (skeleton_of x) x.rules c.good s.linear (spot i 1) (rhs k) x.rules fine, once i))

    linear-next : (i : ℕ) → (i ≡ k) ⊎ (i < k) → Linear (skeleton_of next i)
    linear-next i (inl e) = rw e linear-new
    linear-next i (inr h) = rw (extend-old x (rhs k) i (omega (arith, c.count))) (s.linear i h)

    few-next : length next.rules ≤ b + sum_over (share ranks) (preorder (rhs k))
    unfolding extend
    few-next =
        let light : (r : ℕ) → r < k → weight (skeleton_of x r) ≤ 4 * ranks r - 3 = λ r h. weight-linear alphabet x.rules (ranks r) (skeleton_of x r) (c.good r h) (s.linear r h) in
        omega (arith, s.few, build_cost alphabet ranks k (ranks k) (skeleton_of x) light (rhs k) x.rules fine)

    few-form : Few (suc k) (b + sum_over (share ranks) (preorder (rhs k))) next
    few-form = record { linear = λ i h. linear-next i (eq-or-lt_of_le (omega arith)); few = few-next }

-- right sides that call lower rules only, with the right numbers of arguments
module _ (alphabet : List ℕ) (ranks : ℕ → ℕ) (rhs : ℕ → Tree) where
  pub make_correct : (k : ℕ) → ((i : ℕ) → i < k → Fine alphabet ranks i (ranks i) (rhs i)) → Correct alphabet ranks rhs k (make rhs k)
  unfolding make
  make_correct zero fine = record {
    valid = record { fits = λ i h. absurd (omega arith) };
    count = refl;
    good = λ i h. absurd (omega arith);
    means = λ i h. absurd (omega arith);
  }
  make_correct (suc k) fine = correct_next alphabet ranks rhs k (make rhs k) (make_correct k (λ i h. fine i (omega arith))) (fine k (omega arith))

  pub make-few : (k : ℕ) → ((i : ℕ) → i < k → Fine alphabet ranks i (ranks i) (rhs i)) → ((i : ℕ) → i < k → Once (rhs i))
      → Few k (sum_below k (λ i. sum_over (share ranks) (preorder (rhs i)))) (make rhs k)
  unfolding make
  make-few zero fine once = record { linear = λ i h. absurd (omega arith); few = omega arith }
  make-few (suc k) fine once =
      few-form alphabet ranks rhs k (make rhs k) (make_correct k (λ i h. fine i (omega arith))) (fine k (omega arith)) (once k (omega arith))
      (sum_below k (λ i. sum_over (share ranks) (preorder (rhs i)))) (make-few k (λ i h. fine i (omega arith)) (λ i h. once i (omega arith)))

  -- a rule of rank 0 has a rule of the form that derives its tree
  pub make-closed : (m : ℕ) → ((i : ℕ) → i < m → Fine alphabet ranks i (ranks i) (rhs i)) → (k : ℕ) → k < m → ranks k ≡ 0
      → let x =
      make rhs m in (a : ℕ) × (skeleton_of x k ≡ shut a) × Has x.rules (length x.rules) 0 a × (tree_in (value_at x.rules a) ≡ apply rhs m k none)
  make-closed m fine k h e =
      let x = make rhs m in
      let c = make_correct m fine in
      let g = c.good k h in
      let z = shut_of_rank_zero alphabet x.rules (skeleton_of x k) (subst (λ n. Good alphabet x.rules n (skeleton_of x k)) e g) in
      (z.0, z.1, subst (Good alphabet x.rules (ranks k)) z.1 g, sym (ap (sem x.rules none) z.1) ∙ c.means k h m h none)
