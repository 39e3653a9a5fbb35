-- The bytes of the form that is made of a proper grammar: they are accepted, derive the grammar's tree and keep both bounds.
use mathlib.Core.Path.{◌≡◌, ap, ◌∙◌}
use mathlib.Core.List.{List}
use Prim.Native.Nat.{ℕ, ◌-◌, ◌≤◌}
use native.Mathlib.Omega.{arith}
use lib.ListN.{length}
use Rattle.terms.specs.Grammar.{Rule, node_count, derived, Proper}
use Rattle.terms.specs.Form.{tree_in, form_bound, linear_bound}
use Rattle.terms.specs.Check.{alphabet_refusal}
use Rattle.terms.specs.FormBytes.{rule_count, form_tree, form_refusal, form_bytes}
use Rattle.terms.proofs.Form.Written.{counted, written-form}
use Rattle.skeletons.specs.Skeleton.{Skeleton, shut}
use Rattle.skeletons.specs.Make.{skeleton_of}
use Rattle.skeletons.specs.Scan.{scanned}
use Rattle.skeletons.specs.Form.{number_of, made_form}
use Rattle.skeletons.proofs.Result.{scanned-form, form-linear}

-- what is known of them
pub record MadeBytes (alphabet : List ℕ) (grammar : List Rule) : Type 0 where
  pub accepted : form_refusal alphabet (made_form alphabet grammar) ≡ 0
  pub tree : form_tree alphabet (made_form alphabet grammar) ≡ derived alphabet grammar
  pub few : rule_count (made_form alphabet grammar) ≤ form_bound grammar
  pub linear : rule_count (made_form alphabet grammar) ≤ linear_bound grammar

-- the start is the rule that the start rule's skeleton is
pub made-from : (alphabet : List ℕ) (grammar : List Rule) (start : ℕ) → skeleton_of (scanned alphabet grammar (length grammar)) (length grammar - 1) ≡ shut start
    → made_form alphabet grammar ≡ form_bytes alphabet (scanned alphabet grammar (length grammar)).rules start
unfolding made_form
made-from alphabet grammar start e = ap (λ (s : Skeleton). form_bytes alphabet (scanned alphabet grammar (length grammar)).rules (number_of s)) e

pub made_bytes : (alphabet : List ℕ) (grammar : List Rule) → alphabet_refusal alphabet ≡ 0 → Proper alphabet grammar → node_count grammar ≤ 128 → MadeBytes alphabet grammar
unfolding tree_in
made_bytes alphabet grammar a p small =
    let rules = (scanned alphabet grammar (length grammar)).rules in
    let f = scanned-form alphabet grammar p in
    let start = f.0 in
    let linear = form-linear alphabet grammar p f.2 in
    let most : length rules ≤ 2048 = omega arith in
    let count = counted alphabet rules start most in
    let w = written-form alphabet rules start most a f.2.valid f.2.from in
    let is = made-from alphabet grammar start f.1 in
    record {
      accepted = rw is w.accepted;
      tree = rw is (w.tree ∙ ap tree_in f.2.derives);
      few = rw (is, count) f.2.few;
      linear = rw (is, count) linear;
    }
