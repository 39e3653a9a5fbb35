-- The tables of a sheet that is not refused: their bits are those of runs, and the first byte of the start's table is the sheet's mask.
use mathlib.Core.Logic.{◌↔◌}
use mathlib.Core.Path.{◌≡◌, refl, sym, ◌∙◌, subst}
use mathlib.Core.Bool.{Bool, true, false}
use mathlib.Core.List.{List, [], ◌∷◌, ◌++◌, append-nil}
use Prim.Native.Nat.{ℕ, zero, suc, ◌+◌, ◌*◌, ◌-◌, ◌/◌, ◌%◌, ◌≤◌, ◌<◌}
use native.Mathlib.Omega.{arith}
use lib.Dec.{eqb}
use lib.ListN.{length, get_or-append}
use borrow.Author.Tests.{eqb-true, eqb-false, le-ltb}
use Rattle.terms.specs.Test.{every, tabulate, joined}
use Rattle.terms.specs.Tree.{pick, forest_of, tree_of}
use Rattle.terms.specs.Grammar.{parameter, name, Rule, rule_at, rule_rank, right_side, derived, Proper}
use Rattle.terms.specs.Automaton.{Transition, In, has, mask}
use Rattle.terms.specs.Sheet.{alphabet_of, rules_of, automaton_of, state_count, transition_count, transition_at, transitions_of, sheet_tree, sheet_mask}
use Rattle.terms.specs.Check.{sheet_refusal}
use Rattle.terms.proofs.Test.{is_true, of_true}
use Rattle.terms.proofs.Tabulate.{length-tabulate, get_d_tabulate}
use Rattle.terms.proofs.Automaton.Mask.{mask_iff}
use Rattle.terms.proofs.Sheet.Automaton.{AutomatonPassed, automaton_passed}
use Rattle.terms.proofs.Sheet.Passed.{alphabet_passed, sheet_passed, sheet-proper, sheet_small}
use Rattle.cleaning_terms.specs.Presence.{leaves, open_tree, Occurs}
use Rattle.blackboard_terms.specs.Blackboard.{entering, BitSet, RunEntering, state_at, is_choice, table_byte, table_length, rule_table, tables_of, blackboard_refusal}
use Rattle.blackboard_terms.specs.Claims.{bit_number, four, BlackboardRuns, AbsentFree, LoneIdentity}
use Rattle.blackboard_terms.proofs.Term.{place, term_of, open_term}
use Rattle.blackboard_terms.proofs.Place.{present-place}
use Rattle.blackboard_terms.proofs.Open.{open_step_lem}
use Rattle.blackboard_terms.proofs.Subst.{run_agree}
use Rattle.blackboard_terms.proofs.Entering.{open_few, entering_iff, occurs_iff}
use Rattle.blackboard_terms.proofs.Digits.{choice_of, choice_lt, state_choice}
use Rattle.blackboard_terms.proofs.Bits.{Sound, byte-bit}
use Rattle.blackboard_terms.proofs.Tables.{length-tables, tables-byte}

four_lt : (p1 p2 p3 p4 : ℕ) → p1 < 8 → p2 < 8 → p3 < 8 → p4 < 8 → (j : ℕ) → j < 4 → four p1 p2 p3 p4 j < 8
four_lt p1 p2 p3 p4 h1 h2 h3 h4 zero l = h1
four_lt p1 p2 p3 p4 h1 h2 h3 h4 (suc zero) l = h2
four_lt p1 p2 p3 p4 h1 h2 h3 h4 (suc (suc zero)) l = h3
four_lt p1 p2 p3 p4 h1 h2 h3 h4 (suc (suc (suc zero))) l = h4
four_lt p1 p2 p3 p4 h1 h2 h3 h4 (suc (suc (suc (suc j)))) l = absurd (omega arith)

-- The start.

module _ (alphabet : List ℕ) (rules : List Rule) (δ : List Transition) (Q : ℕ) (proper : Proper alphabet rules) where
  abbrev start : ℕ
  start = length rules - 1

  start-tree : open_tree alphabet rules start ≡ derived alphabet rules
  unfolding open_tree derived leaves tabulate
  start-tree =
      let steps : suc start ≡ length rules = omega (arith, proper.some) in
      rw (proper.start, steps)

  -- the first byte of the start's table is the mask of the derived tree
  pub start-byte : table_byte alphabet rules δ Q start 0 ≡ mask δ (derived alphabet rules)
  unfolding table_byte is_choice every state_at entering tabulate
  start-byte = rw (proper.start, append-nil δ, start-tree)

-- Rules.

module _ (alphabet : List ℕ) (rules : List Rule) (δ : List Transition) (Q : ℕ) (proper : Proper alphabet rules) (a : Sound δ Q) (i : ℕ) (h : i < length rules) where
  -- the states of the parameters that are present decide whether there is a run
  run-same : (ps rs : ℕ → ℕ) (q : ℕ) → ((j : ℕ) → Occurs alphabet rules i j → ps j ≡ rs j) → RunEntering alphabet rules δ i ps q → RunEntering alphabet rules δ i rs q
  run-same ps rs q e r =
      (entering_iff alphabet rules proper i h δ a.terminals rs q).1
      (run_agree δ ps rs (open_term alphabet rules i) q (λ j p. e j ((occurs_iff alphabet rules proper i h j).1 p)) ((entering_iff alphabet rules proper i h δ a.terminals ps q).0 r))

  bit_agree : (ps rs : ℕ → ℕ) (q : ℕ) → ((j : ℕ) → j < 4 → ps j ≡ rs j) → BitSet alphabet rules δ Q i ps q → BitSet alphabet rules δ Q i rs q
  bit_agree ps rs q e b =
      let few = (proper.proper i h).rank in
      record {
        root = b.root;
        own = λ j l. rw (← (e j (omega arith))) (b.own j l);
        others = λ j l m. sym (e j l) ∙ b.others j l m;
        run = run-same ps rs q (λ j o. e j (omega (arith, open_few alphabet rules proper i h j ((occurs_iff alphabet rules proper i h j).0 o)))) b.run;
      }

  -- the bit for the states p1 to p4 and q is bit q of a byte
  pub bit_iff : (p1 p2 p3 p4 q : ℕ) → p1 < 8 → p2 < 8 → p3 < 8 → p4 < 8
      → (has (table_byte alphabet rules δ Q i (choice_of (four p1 p2 p3 p4))) q ≡ true) ↔ BitSet alphabet rules δ Q i (four p1 p2 p3 p4) q
  bit_iff p1 p2 p3 p4 q h1 h2 h3 h4 =
      let ps = four p1 p2 p3 p4 in
      let c = choice_of ps in
      let same = state_choice ps (four_lt p1 p2 p3 p4 h1 h2 h3 h4) in
      let byte = table_byte alphabet rules δ Q i c in
      let bit = byte-bit alphabet rules δ Q proper a i h c q in (
        λ e. bit_agree (state_at c) ps q same (bit.0 (of_true (has byte q) e)),
        λ b. is_true (has byte q) (bit.1 (bit_agree ps (state_at c) q (λ j l. sym (same j l)) b)),
      )

  pub absent_free : AbsentFree alphabet rules δ Q i
  absent_free j q ps rs absent l m e b = record {
    root = b.root;
    own = λ k n. go k n (eqb k j) refl;
    others = λ k n o. sym (e k (λ x. omega arith)) ∙ b.others k n o;
    run = run-same ps rs q (λ k o. e k (λ x. absent (subst (Occurs alphabet rules i) x o))) b.run;
  }
    where
      go : (k : ℕ) → k < rule_rank rules i → (t : Bool) → eqb k j ≡ t → rs k < Q
      go k n true x = let y : k ≡ j = eqb-true k j x in rw y m
      go k n false x = rw (← (e k (λ y. eqb-false k j x y))) (b.own k n)

  -- a right side that is one parameter
  lone_term : (m j : ℕ) → (rule_at rules i).nodes ≡ m ∷ [] → name m ≡ parameter j → open_term alphabet rules i ≡ place j
  unfolding right_side tree_of forest_of pick term_of
  lone_term m j e x = open_step_lem alphabet rules proper i h ∙ rw (e, x)

  pub lone-identity : LoneIdentity alphabet rules δ Q i
  lone-identity m j q ps e x own others =
      let lone = lone_term m j e x in
      let runs = entering_iff alphabet rules proper i h δ a.terminals ps q in
      let mine : j < rule_rank rules i = open_few alphabet rules proper i h j (rw lone (present-place j)) in (
        λ b. rw lone at (runs.0 b.run),
        λ s. record { root = rw s at (own j mine); own = own; others = others; run = runs.1 (rw lone s) },
      )

-- Sheets.

pub automaton_sound : (alphabet a : List ℕ) → length alphabet ≤ 32 → AutomatonPassed alphabet a → Sound (transitions_of alphabet a) (state_count a)
unfolding transitions_of transition_at
automaton_sound alphabet a short p = record {
  some_state = p.some_state;
  few_states = p.few_states;
  within = λ τ i. let (k, l, e) = found τ i in subst (λ (x : Transition). x.target < state_count a) e (p.transitions k l).target;
  terminals = λ τ i. let (k, l, e) = found τ i in subst (λ (x : Transition). x.terminal < 0x20) e (omega (arith, (p.transitions k l).terminal));
}
  where
    found : (τ : Transition) → In τ (transitions_of alphabet a) → (k : ℕ) × (k < transition_count a) × (transition_at alphabet a k ≡ τ)
    found τ (k, h, e) =
        let n = transition_count a in
        let l : k < n = omega (arith, length-tabulate n (transition_at alphabet a)) in
        (k, l, sym (get_d_tabulate n (transition_at alphabet a) (record { terminal = 0; target = 0; children = [] }) k l) ∙ e)

module _ (s : List ℕ) (e : sheet_refusal s ≡ 0) where
  abbrev alphabet : List ℕ
  alphabet = alphabet_of s

  abbrev δ : List Transition
  δ = transitions_of (alphabet_of s) (automaton_of s)

  abbrev Q : ℕ
  Q = state_count (automaton_of s)

  pub sheet_sound : Sound δ Q
  sheet_sound =
      let p = sheet_passed s e in
      automaton_sound alphabet (automaton_of s) (alphabet_passed alphabet p.alphabet).few (automaton_passed alphabet (automaton_of s) p.automaton)

  pub sheet-byte : table_byte alphabet (rules_of s) δ Q (length (rules_of s) - 1) 0 ≡ sheet_mask s
  unfolding sheet_mask sheet_tree
  sheet-byte = start-byte alphabet (rules_of s) δ Q (sheet-proper s e)

  pub long_enough : (room : ℕ) → table_length * length (rules_of s) ≤ room → blackboard_refusal s room ≡ 0
  unfolding blackboard_refusal
  long_enough room h = rw (e, le-ltb room (table_length * length (rules_of s)) h) refl

  -- bytes that begin with the sheet's tables, and the sheet's mask, are what runs say
  pub blackboard_runs : (rest : List ℕ) → BlackboardRuns s (tables_of s ++ rest) (sheet_mask s)
  unfolding tables_of sheet_mask
  blackboard_runs rest = record {
    bits = λ i h p1 p2 p3 p4 q h1 h2 h3 h4 hq. (
        let n = length (rules_of s) in
        let tables = joined n (rule_table alphabet (rules_of s) δ Q) in
        let c = choice_of (four p1 p2 p3 p4) in
        let l : c < table_length = choice_lt (four p1 p2 p3 p4) (four_lt p1 p2 p3 p4 h1 h2 h3 h4) in
        let place : (8 * table_length * i + bit_number p1 p2 p3 p4 q) / 8 ≡ table_length * i + c = omega arith in
        let low : (8 * table_length * i + bit_number p1 p2 p3 p4 q) % 8 ≡ q = omega arith in
        let inside : table_length * i + c < length tables = omega (arith, length-tables alphabet (rules_of s) δ Q n) in
        rw (place, low, get_or-append tables rest 0 (table_length * i + c) inside, tables-byte alphabet (rules_of s) δ Q n i c h l)
        (bit_iff alphabet (rules_of s) δ Q (sheet-proper s e) sheet_sound i h p1 p2 p3 p4 q h1 h2 h3 h4)
        );
    answer = λ q. mask_iff δ (sheet_small s e) (sheet_tree s) q;
  }
