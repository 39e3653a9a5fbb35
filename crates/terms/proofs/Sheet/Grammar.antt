-- The rules of a sheet that is not refused are a proper grammar over its alphabet.
use mathlib.Core.Path.{◌≡◌, refl, ap}
use mathlib.Core.Bool.{Bool, true, false, not, ◌||◌}
use mathlib.Core.List.{List, [], ◌∷◌}
use Prim.Native.Nat.{ℕ, zero, suc, ◌-◌, ◌≤◌, ◌<◌}
use native.Mathlib.Omega.{arith}
use native.Mathlib.Decide.{dec_lt}
use lib.Dec.{T, leb, ltb, eqb}
use lib.ListN.{length}
use borrow.Author.Tests.{leb-true, ltb-true, ltb-false, eqb-true, eqb-false, not-false, ne_eqb}
use Rattle.terms.specs.Test.{all, every, tabulate}
use Rattle.terms.specs.Refusal.{first}
use Rattle.terms.specs.Tree.{Wholes, exactly, lacking, wholes}
use Rattle.terms.specs.Grammar.{Name, terminal, nonterminal, parameter, nothing, name, Rule, rule_at, rule_rank, rank_in, allowed, all_allowed, is_parameter, sum_over, node_count, ProperRule, Proper}
use Rattle.terms.specs.Sheet.{rules_body}
use Rattle.terms.specs.Check.{is_one, rule_refusal, rules_refusal}
use Rattle.terms.proofs.Test.{is_true, of_true, both_0, both_1, or_false, every_at}
use Rattle.terms.proofs.Refusal.{none_before, no_row, none_at}

pub one_whole : (w : Wholes) → is_one w ≡ true → w ≡ exactly 1
one_whole (exactly n) e = ap exactly (eqb-true n 1 e)
one_whole lacking e = absurd (of_true false e)

-- a parameter that is not the rule's does not occur

name-once : (alphabet : List ℕ) (i n j : ℕ) → n ≤ j → (x : Name) → T (allowed alphabet i n x) → is_parameter j x ≡ 0
name-once alphabet i n j h (terminal f) p = refl
name-once alphabet i n j h (nonterminal r) p = refl
name-once alphabet i n j h (parameter k) p = rw (ne_eqb j k (λ e. omega (arith, ltb-true k n (is_true (ltb k n) p))))
name-once alphabet i n j h nothing p = refl

sum_over_none : (alphabet : List ℕ) (i n j : ℕ) → n ≤ j → (ms : List ℕ) → T (all_allowed alphabet i n ms) → sum_over (is_parameter j) ms ≡ 0
unfolding all
sum_over_none alphabet i n j h [] p = refl
sum_over_none alphabet i n j h (m ∷ ms) p =
    let a = allowed alphabet i n (name m) in
    let b = all_allowed alphabet i n ms in
    omega (arith, name-once alphabet i n j h (name m) (both_0 a b p), sum_over_none alphabet i n j h ms (both_1 a b p))

-- where each of the rule's own parameters occurs at most once, each parameter does
pub at_most_once : (alphabet : List ℕ) (i n j : ℕ) (ms : List ℕ) → T (all_allowed alphabet i n ms) → (j < n → sum_over (is_parameter j) ms ≤ 1)
    → sum_over (is_parameter j) ms ≤ 1
at_most_once alphabet i n j ms known own = go (dec_lt j n)
  where
    go : Dec (j < n) → sum_over (is_parameter j) ms ≤ 1
    go (yes h) = own h
    go (no h) = omega (arith, sum_over_none alphabet i n j (omega arith) ms known)

pos_of_ne : (n : ℕ) → (n ≡ 0 → ⊥) → 0 < n
pos_of_ne zero h = absurd (h refl)
pos_of_ne (suc n) h = omega arith

-- a rule that passes 8 to 11 is proper
pub rule_passed : (alphabet : List ℕ) (rules : List Rule) (i : ℕ) → rule_refusal alphabet rules i ≡ 0 → ProperRule alphabet rules i
unfolding rule_refusal
rule_passed alphabet rules i e =
    let n = rule_rank rules i in
    let nodes = (rule_at rules i).nodes in
    let once : ℕ → Bool = λ j. leb (sum_over (is_parameter j) nodes) 1 in
    let whole = is_one (wholes (rank_in alphabet rules) nodes) in
    let (e8, r8) = no_row 7 (ltb 4 n) _ e in
    let (e9, r9) = no_row 8 (not (all_allowed alphabet i n nodes)) _ r8 in
    let (e10, r10) = no_row 9 (not whole) _ r9 in
    let e11 = (no_row 10 (not (every n once)) _ r10).0 in
    let known = of_true (all_allowed alphabet i n nodes) (not-false _ e9) in
    let own : (j : ℕ) → j < n → sum_over (is_parameter j) nodes ≤ 1 = λ j h. leb-true _ _ (is_true (once j) (every_at n once (of_true (every n once) (not-false _ e11)) j h)) in
    record {
      rank = ltb-false _ _ e8;
      whole = one_whole _ (not-false _ e10);
      allowed = known;
      once = λ j. at_most_once alphabet i n j nodes known (own j);
    }

module _ (alphabet bs : List ℕ) (e : rules_refusal alphabet bs ≡ 0) where
  abbrev rules : List Rule
  rules = (rules_body bs).rules

  -- what is known of a rules body that passes 5 to 13
  pub record RulesPassed : Type 0 where
    pub ends : (rules_body bs).ends ≡ true
    pub proper : Proper alphabet rules
    pub few-nodes : node_count rules ≤ 128

  pub rules_passed : RulesPassed
  unfolding rules_refusal
  rules_passed =
      let b = rules_body bs in
      let (e5, r5) = no_row 4 (not b.ends || eqb (length rules) 0) _ e in
      let (e6, r6) = no_row 5 (ltb 64 (length rules)) _ r5 in
      let (e7, r7) = no_row 6 (ltb 128 (node_count rules)) _ r6 in
      let (e8, r8) = none_before (first (tabulate (length rules) (rule_refusal alphabet rules))) _ r7 in
      let e13 = (no_row 12 (not (eqb (rule_rank rules (length rules - 1)) 0)) _ r8).0 in
      let (ends, some) = or_false (not b.ends) (eqb (length rules) 0) e5 in
      record {
        ends = not-false _ ends;
        proper = record {
          some = pos_of_ne (length rules) (eqb-false _ _ some);
          few = ltb-false _ _ e6;
          start = eqb-true _ _ (not-false _ e13);
          proper = λ i h. rule_passed alphabet rules i (none_at (length rules) (rule_refusal alphabet rules) e8 i h);
        };
        few-nodes = ltb-false _ _ e7;
      }
