-- A grammar that the code finds strict is strict: where a rule has as many parameter nodes as its rank, and each parameter at most once, it has each exactly once.
use mathlib.Core.Path.{◌≡◌, refl}
use mathlib.Core.Bool.{true, false, not, cond}
use mathlib.Core.List.{List, [], ◌∷◌}
use Prim.Native.Nat.{ℕ, ◌≤◌, ◌<◌}
use native.Mathlib.Omega.{arith}
use borrow.Author.Tests.{eq-eqb, eqb-true, not-true}
use lib.Dec.{T, eqb, ltb→lt}
use lib.ListN.{length}
use Rattle.terms.specs.Test.{all}
use Rattle.terms.specs.Grammar.{Name, terminal, nonterminal, parameter, nothing, name, Rule, rule_at, allowed, all_allowed, is_parameter, any_parameter, sum_over, Proper}
use Rattle.terms.proofs.Test.{is_true, of_true, parts, all_at}
use Rattle.terms.proofs.Grammar.Sum.{sum_below, sum_plus, sum_least, sum-full}
use Rattle.cleaning_terms.specs.Cleaning.{lone}
use Rattle.cleaning_terms.specs.Clean.{Strict}
use Rattle.rule_parameters.specs.Strict.{parameter_count, strict_rule, strict}

-- the nodes of rule i, of rank n: each parameter among them is one of the n
module _ (alphabet : List ℕ) (i n : ℕ) where
  own-counts : (x : Name) → T (allowed alphabet i n x) → cond (any_parameter x) 1 0 ≤ sum_below n (λ j. is_parameter j x)
  own-counts (terminal f) h = omega arith
  own-counts (nonterminal r) h = omega arith
  own-counts (parameter k) h = rw (eq-eqb k k refl) at (sum_least n (λ j. is_parameter j (parameter k)) k (ltb→lt k n h))
  own-counts nothing h = absurd h

  all-count : (nodes : List ℕ) → T (all_allowed alphabet i n nodes) → parameter_count nodes ≤ sum_below n (λ j. sum_over (is_parameter j) nodes)
  unfolding all
  all-count [] h = omega arith
  all-count (m ∷ nodes) h =
      let (own, others) = parts (allowed alphabet i n (name m)) (all_allowed alphabet i n nodes) h in
      omega (arith, own-counts (name m) own, all-count nodes others, sum_plus n (λ j. is_parameter j (name m)) (λ j. sum_over (is_parameter j) nodes))

pub strict-is : (alphabet : List ℕ) (rules : List Rule) → Proper alphabet rules → strict rules ≡ true → Strict rules
strict-is alphabet rules p e = record {
  once = λ i h j l.
      let r = rule_at rules i in
      let q = p.proper i h in
      let s = (each i h).0 in
      sum-full (λ k. sum_over (is_parameter k) r.nodes) q.once r.rank (omega (arith, s, all-count alphabet i r.rank r.nodes q.allowed)) j l;
  several = λ i h. (each i h).1;
}
  where
    each : (i : ℕ) → i < length rules → (parameter_count (rule_at rules i).nodes ≡ (rule_at rules i).rank) × (lone (rule_at rules i).nodes ≡ false)
    each i h =
        let r = rule_at rules i in
        let (count, several) = parts (eqb (parameter_count r.nodes) r.rank) (not (lone r.nodes)) (all_at strict_rule rules _ (of_true (strict rules) e) i h) in
        (eqb-true _ _ (is_true _ count), not-true _ (is_true _ several))
