-- A plain tree that is wrapped into a sheet: the sheet is not refused, its bodies are those given, and its tree is the tree given.
use mathlib.Core.Path.{◌≡◌, refl, sym, ap, subst, ◌∙◌}
use mathlib.Core.Bool.{Bool, true}
use mathlib.Core.List.{List, [], ◌∷◌}
use Prim.Native.Nat.{ℕ, ◌+◌, ◌≤◌, ◌<◌}
use native.Mathlib.Omega.{arith}
use lib.Dec.{T, ltb, ltb→lt}
use lib.ListN.{length}
use lib.Seq.{take-length, drop-length}
use borrow.Author.Tests.{le-leb, le-ltb, ltb-false}
use Rattle.terms.specs.Test.{all, every, tabulate}
use Rattle.terms.specs.Tree.{Tree, Forest, node, none, more, preorder, preorders, pick, forest_of, tree_of, exactly, wholes}
use Rattle.terms.specs.Grammar.{terminal, name, Rule, terminal_rank, rank_in, right_side, allowed, all_allowed, apply, derived, Terminals, AllTerminals}
use Rattle.terms.specs.Sheet.{RulesBody, read_rules, rules_body, rules_of, alphabet_of, automaton_of, sheet_tree, wrapped}
use Rattle.terms.specs.Check.{is_one, is_tree, rule_refusal, rules_refusal, alphabet_refusal, automaton_refusal, tree_refusal, sheet_refusal}
use Rattle.terms.specs.Calls.{wrap_refusal}
use Rattle.terms.proofs.Test.{is_true, both, both_0, both_1, parts, all_append}
use Rattle.terms.proofs.Refusal.{none_before, no_row}
use Rattle.terms.proofs.Tree.Whole.{preorder-tree}
use Rattle.terms.proofs.Grammar.Name.{name-terminal}
use Rattle.terms.proofs.Grammar.Value.{value_terminals}
use Rattle.terms.proofs.Sheet.Passed.{alphabet_passed, tree_passed}
use Rattle.terms.proofs.Sheet.Automaton.{automaton_passed}
use Rattle.terms.proofs.Sheet.Grammar.{one_whole}
use Rattle.terms.proofs.Sheet.Write.{length-sheet, written-alphabet, written-rules, written_automaton, written-passes}

-- the one rule of the sheet
abbrev pub single : List ℕ → List Rule
single tree = record { rank = 0; nodes = tree } ∷ []

one_rule : (tree : List ℕ) → rules_body (0 ∷ length tree ∷ tree) ≡ record { rules = single tree; ends = true }
unfolding rules_body read_rules
one_rule tree = rw (le-leb (length tree) (length tree) (omega arith), take-length tree, drop-length tree)

module _ (alphabet : List ℕ) (few : length alphabet ≤ 32) where
  abbrev Known : ℕ → Bool
  Known f = ltb f (length alphabet)

  name-known : (f : ℕ) → T (Known f) → name f ≡ terminal f
  name-known f h = name-terminal f (omega (arith, ltb→lt f (length alphabet) h))

  -- a terminal has the same rank in the grammar as in the alphabet
  rank-known : (rules : List Rule) (f : ℕ) → T (Known f) → rank_in alphabet rules f ≡ terminal_rank alphabet f
  unfolding rank_in
  rank-known rules f h = rw (name-known f h)

  wholes-known : (rules : List Rule) (fs : List ℕ) → T (all Known fs) → wholes (rank_in alphabet rules) fs ≡ wholes (terminal_rank alphabet) fs
  unfolding wholes all
  wholes-known rules [] h = refl
  wholes-known rules (f ∷ fs) h =
      let (p, q) = parts (Known f) (all Known fs) h in
      rw (rank-known rules f p, wholes-known rules fs q)

  forest_known : (rules : List Rule) (fs : List ℕ) → T (all Known fs) → forest_of (rank_in alphabet rules) fs ≡ forest_of (terminal_rank alphabet) fs
  unfolding forest_of all
  forest_known rules [] h = refl
  forest_known rules (f ∷ fs) h =
      let (p, q) = parts (Known f) (all Known fs) h in
      rw (rank-known rules f p, forest_known rules fs q)

  allowed-known : (fs : List ℕ) → T (all Known fs) → T (all_allowed alphabet 0 0 fs)
  unfolding all
  allowed-known [] h = tt
  allowed-known (f ∷ fs) h =
      let (p, q) = parts (Known f) (all Known fs) h in
      both (allowed alphabet 0 0 (name f)) (all_allowed alphabet 0 0 fs) (rw (name-known f p) p) (allowed-known fs q)

  mutual
    unfolding preorder preorders all

    terminals_known : (t : Tree) → T (all Known (preorder t)) → Terminals t
    terminals_known (node f ts) h =
        let (p, q) = parts (Known f) (all Known (preorders ts)) h in
        (omega (arith, ltb→lt f (length alphabet) p), all_terminals_known ts q)

    all_terminals_known : (ts : Forest) → T (all Known (preorders ts)) → AllTerminals ts
    all_terminals_known none h = tt
    all_terminals_known (more t ts) h =
        let q = all_append Known (preorder t) (preorders ts) h in
        (terminals_known t q.0, all_terminals_known ts q.1)

  module _ (tree : List ℕ) (short : length tree ≤ 128) (one : T (is_tree alphabet tree)) where
    known : T (all Known tree)
    unfolding is_tree
    known = both_0 (all Known tree) (is_one (wholes (terminal_rank alphabet) tree)) one

    whole : wholes (terminal_rank alphabet) tree ≡ exactly 1
    unfolding is_tree
    whole = one_whole _ (is_true _ (both_1 (all Known tree) (is_one (wholes (terminal_rank alphabet) tree)) one))

    wrapped_rules_pass : rules_refusal alphabet (0 ∷ length tree ∷ tree) ≡ 0
    unfolding rules_refusal rule_refusal tabulate every
    wrapped_rules_pass =
        rw (one_rule tree, le-ltb 128 (length tree + 0) (omega arith), is_true (all_allowed alphabet 0 0 tree) (allowed-known tree known), wholes-known (single tree) tree known, whole)

    -- the tree that the one rule derives is the tree given
    single-derives : derived alphabet (single tree) ≡ tree_of (terminal_rank alphabet) tree
    unfolding derived apply right_side tree_of
    single-derives =
        let t = pick (forest_of (terminal_rank alphabet) tree) 0 in
        rw (forest_known (single tree) tree known) (value_terminals _ none t (terminals_known t (subst (λ (fs : List ℕ). T (all Known fs)) (sym (preorder-tree (terminal_rank alphabet) tree whole)) known)))

-- what passes is short
pub record WrapLengths (alphabet tree automaton : List ℕ) : Type 0 where
  pub terminals : length alphabet ≤ 32
  pub nodes : length tree ≤ 128
  pub automaton_bytes : length automaton ≤ 1532
  pub sheet-bytes : length (wrapped alphabet tree automaton) ≡ 12 + (length alphabet + (2 + length tree + length automaton))

pub wrap_lengths : (alphabet tree automaton : List ℕ) → alphabet_refusal alphabet ≡ 0 → tree_refusal 128 alphabet tree ≡ 0
    → automaton_refusal alphabet automaton ≡ 0 → WrapLengths alphabet tree automaton
unfolding wrapped
wrap_lengths alphabet tree automaton ea et em =
    let a = alphabet_passed alphabet ea in
    let t = tree_passed 128 alphabet tree et in
    let m = automaton_passed alphabet automaton em in
    record {
      terminals = a.few;
      nodes = t.short;
      automaton_bytes = omega arith;
      sheet-bytes = omega (arith, length-sheet alphabet (0 ∷ length tree ∷ tree) automaton (omega arith));
    }

-- what is known where wrap refuses nothing
pub record WrapPassed (alphabet tree automaton : List ℕ) (room : ℕ) : Type 0 where
  pub alphabet-passes : alphabet_refusal alphabet ≡ 0
  pub tree-passes : tree_refusal 128 alphabet tree ≡ 0
  pub automaton_passes : automaton_refusal alphabet automaton ≡ 0
  pub lengths : WrapLengths alphabet tree automaton
  pub fits : length (wrapped alphabet tree automaton) ≤ room

pub wrap_passed : (alphabet tree automaton : List ℕ) (room : ℕ) → wrap_refusal alphabet tree automaton room ≡ 0 → WrapPassed alphabet tree automaton room
unfolding wrap_refusal
wrap_passed alphabet tree automaton room e =
    let (ea, r1) = none_before (alphabet_refusal alphabet) _ e in
    let (et, r2) = none_before (tree_refusal 128 alphabet tree) _ r1 in
    let (em, r3) = none_before (automaton_refusal alphabet automaton) _ r2 in
    let e24 = (no_row 23 (ltb room (length (wrapped alphabet tree automaton))) _ r3).0 in
    record {
      alphabet-passes = ea;
      tree-passes = et;
      automaton_passes = em;
      lengths = wrap_lengths alphabet tree automaton ea et em;
      fits = ltb-false room (length (wrapped alphabet tree automaton)) e24;
    }

-- what wrap writes
pub record Wrapped (alphabet tree automaton : List ℕ) : Type 0 where
  pub passes : sheet_refusal (wrapped alphabet tree automaton) ≡ 0
  pub alphabet-given : alphabet_of (wrapped alphabet tree automaton) ≡ alphabet
  pub rule-given : rules_of (wrapped alphabet tree automaton) ≡ single tree
  pub automaton_given : automaton_of (wrapped alphabet tree automaton) ≡ automaton
  pub tree-given : preorder (sheet_tree (wrapped alphabet tree automaton)) ≡ tree

pub wrap_right : (alphabet tree automaton : List ℕ) (room : ℕ) → wrap_refusal alphabet tree automaton room ≡ 0 → Wrapped alphabet tree automaton
unfolding wrapped sheet_tree rules_of
wrap_right alphabet tree automaton room e =
    let p = wrap_passed alphabet tree automaton room e in
    let ea = p.alphabet-passes in
    let em = p.automaton_passes in
    let t = tree_passed 128 alphabet tree p.tree-passes in
    let short = t.short in
    let one = t.one in
    let a = alphabet_passed alphabet ea in
    let m = automaton_passed alphabet automaton em in
    let rules : List ℕ = 0 ∷ length tree ∷ tree in
    let fits : 12 + (length alphabet + (length rules + length automaton)) < 65536 = omega arith in
    let wa = written-alphabet alphabet rules automaton fits in
    let wr = ap (λ (b : RulesBody). b.rules) (ap rules_body (written-rules alphabet rules automaton fits) ∙ one_rule tree) in
    let rank = terminal_rank alphabet in
    record {
      passes = written-passes alphabet rules automaton ea (wrapped_rules_pass alphabet a.few tree short one) em (omega arith);
      alphabet-given = wa;
      rule-given = wr;
      automaton_given = written_automaton alphabet rules automaton fits;
      tree-given = rw (wa, wr, single-derives alphabet a.few tree short one) (preorder-tree rank tree (whole alphabet a.few tree short one));
    }
