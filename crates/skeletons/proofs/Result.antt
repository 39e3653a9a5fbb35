-- The form that is made from the node lists of a proper grammar is a form of that grammar.
use mathlib.Core.Path.{◌≡◌, refl, ◌∙◌, ap}
use mathlib.Core.List.{List}
use Prim.Native.Nat.{ℕ, ◌-◌, ◌≤◌, ◌<◌}
use native.Mathlib.Omega.{arith}
use lib.ListN.{length}
use Rattle.terms.specs.Tree.{Tree, preorder}
use Rattle.terms.specs.Grammar.{Name, terminal, nonterminal, parameter, nothing, Rule, rule_at, rule_rank, right_side, is_parameter, sum_over, derived, Proper}
use Rattle.terms.specs.Form.{closed, share, form_bound, linear_bound}
use Rattle.skeletons.specs.FormOf.{FormOf}
use Rattle.terms.specs.Form.{Rule as FormRule}
use Rattle.terms.proofs.Form.Bound.{bound-linear}
use Rattle.terms.proofs.Form.Value.{derives-tree}
use Rattle.terms.proofs.Grammar.Sum.{sum_over_cong, sum_below, sum_cong, sum-rules}
use Rattle.terms.proofs.Grammar.Fine.{Fine, right_preorder, right_fine}
use Rattle.skeletons.specs.Skeleton.{shut}
use Rattle.skeletons.specs.Make.{Form, skeleton_of, make}
use Rattle.skeletons.specs.Scan.{scanned}
use Rattle.skeletons.proofs.Scan.{scanned_right}
use Rattle.skeletons.proofs.Occurrence.{spot, own, Once}
use Rattle.skeletons.proofs.Correct.{make_correct, make-few, make-closed}

parameter-own : (j : ℕ) (x : Name) → own (spot j 1) x ≡ is_parameter j x
parameter-own j (terminal f) = refl
parameter-own j (nonterminal r) = refl
parameter-own j (parameter i) = refl
parameter-own j nothing = refl

module _ (alphabet : List ℕ) (rules : List Rule) (p : Proper alphabet rules) where
  abbrev right : ℕ → Tree
  right i = right_side alphabet rules i

  abbrev made : Form
  made = make right (length rules)

  pub fine : (i : ℕ) → i < length rules → Fine alphabet (rule_rank rules) i (rule_rank rules i) (right i)
  fine i h = right_fine alphabet rules i (p.proper i h)

  nodes : (i : ℕ) → i < length rules → preorder (right i) ≡ (rule_at rules i).nodes
  nodes i h = right_preorder alphabet rules i (p.proper i h)

  pub once : (i : ℕ) → i < length rules → Once (right i)
  once i h j = rw (nodes i h, sum_over_cong (own (spot j 1)) (is_parameter j) (parameter-own j) (rule_at rules i).nodes) ((p.proper i h).once j)

  shares : sum_below (length rules) (λ i. sum_over (share (rule_rank rules)) (preorder (right i))) ≡ form_bound rules
  shares =
      let g = share (rule_rank rules) in
      sum_cong (length rules) (λ i. sum_over g (preorder (right i))) (λ i. sum_over g (rule_at rules i).nodes) (λ i h. ap (sum_over g) (nodes i h))
      ∙ sum-rules (λ r. sum_over g r.nodes) rules

  made-few : length made.rules ≤ form_bound rules
  made-few = omega (arith, (make-few alphabet (rule_rank rules) right (length rules) fine once).few, shares)

  -- the start rule's skeleton is a rule of the form, which derives the grammar's tree
  pub made-form : (start : ℕ) × (skeleton_of made (length rules - 1) ≡ shut start) × FormOf alphabet rules made.rules start
  unfolding derived
  made-form =
      let c = make_correct alphabet (rule_rank rules) right (length rules) fine in
      let z = make-closed alphabet (rule_rank rules) right (length rules) fine (length rules - 1) (omega arith) p.start in
      let d = derives-tree c.valid z.0 z.2.below z.2.rank ∙ ap closed z.3 in
      (z.0, z.1, record { valid = c.valid; from = z.2; derives = d; few = made-few })

  -- the same from the node lists
  pub scanned-form : let x = scanned alphabet rules (length rules)
      in (start : ℕ) × (skeleton_of x (length rules - 1) ≡ shut start) × FormOf alphabet rules x.rules start
  scanned-form = rw (scanned_right alphabet rules p (length rules) (omega arith)) made-form

pub form-linear : (alphabet : List ℕ) (grammar : List Rule) → Proper alphabet grammar
    → {rules : List FormRule} {start : ℕ} → FormOf alphabet grammar rules start → length rules ≤ linear_bound grammar
form-linear alphabet grammar p f = omega (arith, f.few, bound-linear alphabet grammar p)
