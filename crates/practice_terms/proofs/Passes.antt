-- The rules of a practice sheet pass 5 to 13.
use mathlib.Core.Path.{◌≡◌, refl, sym, ◌∙◌, ap, subst}
use mathlib.Core.Bool.{true, false}
use mathlib.Core.List.{List}
use Prim.Native.Nat.{ℕ, suc, ◌+◌, ◌-◌, ◌≤◌}
use native.Mathlib.Omega.{arith}
use lib.Dec.{leb, ltb}
use lib.ListN.{length}
use borrow.Author.Tests.{lt-ltb, le-ltb, eq-eqb, ne_eqb}
use Rattle.terms.specs.Test.{all, every}
use Rattle.terms.specs.Tree.{exactly, taking, wholes}
use Rattle.terms.specs.Grammar.{Rule, rule_at, rule_rank, rank_in, all_allowed, is_parameter, sum_over, node_count}
use Rattle.terms.specs.Check.{rule_refusal, rules_refusal}
use Rattle.terms.proofs.Refusal.{none-refused}
use Rattle.terms.proofs.Grammar.Name.{name-terminal, name-call, name-parameter}
use Rattle.terms.specs.Sheet.{written_rules}
use Rattle.practice_terms.specs.Draw.{Choice, calls, beside}
use Rattle.practice_terms.specs.Practice.{practice_alphabet, drawn_rule, first_rule, last_rule, grammar_of}
use Rattle.practice_terms.proofs.Choices.{Below, AllBelow, length_most}
use Rattle.terms.proofs.Sheet.Rules.{rules-read}
use Rattle.practice_terms.proofs.Rules.{choice_at, length-rules, at_last, Shape, is-first, is-drawn, is_last, shape, rank_one, count-nodes}

-- what is asked of rule i, which is r
record Passing (rules : List Rule) (i : ℕ) (r : Rule) : Type 0 where
  small : ltb 4 r.rank ≡ false
  allowed : all_allowed practice_alphabet i r.rank r.nodes ≡ true
  whole : wholes (rank_in practice_alphabet rules) r.nodes ≡ exactly 1
  once : every r.rank (λ j. leb (sum_over (is_parameter j) r.nodes) 1) ≡ true

passing : (rules : List Rule) (i : ℕ) (r : Rule) → rule_at rules i ≡ r → Passing rules i r → rule_refusal practice_alphabet rules i ≡ 0
unfolding rule_refusal
passing rules i r e p =
    let q : Passing rules i (rule_at rules i) = subst (Passing rules i) (sym e) p in
    rw (q.small, q.allowed, q.whole, q.once)

module _ (cs : List Choice) (few : length cs ≤ 20) where
  abbrev rules : List Rule
  rules = grammar_of cs

  abbrev rank : ℕ → ℕ
  rank = rank_in practice_alphabet rules

  -- the ranks of the nodes

  pub rank-call : (j : ℕ) → j ≤ length cs → rank (0x40 + j) ≡ 1
  unfolding rank_in
  rank-call j h = rw (name-call j (omega arith)) (rank_one cs j h)

  pub rank-parameter : rank 0x80 ≡ 0
  unfolding rank_in
  rank-parameter = rw (name-parameter 0 (omega arith))

  pub rank_a : rank 0 ≡ 0
  unfolding rank_in
  rank_a = rw (name-terminal 0 (omega arith))

  pub rank_h : rank 1 ≡ 1
  unfolding rank_in
  rank_h = rw (name-terminal 1 (omega arith))

  pub rank_f : rank 2 ≡ 2
  unfolding rank_in
  rank_f = rw (name-terminal 2 (omega arith))

  -- each rule

  first_passes : (i : ℕ) → Passing rules i first_rule
  unfolding all every wholes taking
  first_passes i = record {
    small = refl;
    allowed = rw (name-terminal 1 (omega arith), name-parameter 0 (omega arith));
    whole = rw (rank_h, rank-parameter);
    once = rw (name-terminal 1 (omega arith), name-parameter 0 (omega arith));
  }

  drawn-passes : (i : ℕ) → i ≤ length cs → (c : Choice) → Below i c → Passing rules i (drawn_rule c)
  unfolding all every wholes taking
  drawn-passes i l (calls j k) b = record {
    small = refl;
    allowed = rw (name-call j (omega arith), name-call k (omega arith), name-parameter 0 (omega arith), lt-ltb j i b.0, lt-ltb k i b.1);
    whole = rw (rank-call j (omega arith), rank-call k (omega arith), rank-parameter);
    once = rw (name-call j (omega arith), name-call k (omega arith), name-parameter 0 (omega arith));
  }
  drawn-passes i l (beside j) b = record {
    small = refl;
    allowed = rw (name-terminal 2 (omega arith), name-call j (omega arith), name-parameter 0 (omega arith), name-terminal 0 (omega arith), lt-ltb j i b);
    whole = rw (rank_f, rank-call j (omega arith), rank-parameter, rank_a);
    once = rw (name-terminal 2 (omega arith), name-call j (omega arith), name-parameter 0 (omega arith), name-terminal 0 (omega arith));
  }

  last_passes : (i : ℕ) → i ≡ suc (length cs) → Passing rules i (last_rule (length cs))
  unfolding all every wholes taking
  last_passes i e = record {
    small = refl;
    allowed = rw (name-call (length cs) (omega arith), name-terminal 0 (omega arith), lt-ltb (length cs) i (omega arith));
    whole = rw (rank-call (length cs) (omega arith), rank_a);
    once = refl;
  }

  shape_passes : (i : ℕ) → Shape cs i → rule_refusal practice_alphabet rules i ≡ 0
  shape_passes i (is-first z e) = passing rules i first_rule e (first_passes i)
  shape_passes i (is-drawn n h z b e) = passing rules i (drawn_rule (choice_at cs n)) e (drawn-passes i (omega arith) (choice_at cs n) b)
  shape_passes i (is_last z e) = passing rules i (last_rule (length cs)) e (last_passes i z)

  last_rank : rule_rank rules (length rules - 1) ≡ 0
  last_rank =
      let l : length rules - 1 ≡ suc (length cs) = omega (arith, length-rules cs) in
      ap (rule_rank rules) l ∙ ap (λ (r : Rule). r.rank) (at_last cs)

  pub rules_pass : AllBelow 1 cs → rules_refusal practice_alphabet (written_rules rules) ≡ 0
  unfolding rules_refusal
  rules_pass b =
      let n = length-rules cs in
      rw (rules-read rules, ne_eqb (length rules) 0 (λ z. omega arith), le-ltb 64 (length rules) (omega arith), le-ltb 128 (node_count rules) (omega (arith, count-nodes cs, length_most cs)), none-refused (length rules) (rule_refusal practice_alphabet rules) (λ i h. shape_passes i (shape cs b i h)), eq-eqb (rule_rank rules (length rules - 1)) 0 last_rank)
