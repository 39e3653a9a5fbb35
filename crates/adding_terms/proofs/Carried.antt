-- What the call answers and leaves: an entry is redone exactly where its rule depends on the terminal; old relations are carried over, and no bit of them is lost.
use mathlib.Core.Path.{◌≡◌, sym, ap, ◌∙◌}
use mathlib.Core.Bool.{true}
use mathlib.Core.List.{List, ◌∷◌, [], ◌++◌}
use Prim.Native.Nat.{ℕ, ◌+◌, ◌-◌, ◌^◌, ◌%◌, ◌≤◌, ◌<◌}
use native.Mathlib.Omega.{arith}
use native.Mathlib.Decide.{dec_lt}
use lib.Dec.{ltb}
use lib.ListN.{length, get_or, drop, length-append, length-drop, get_or-append}
use lib.Seq.{get_or-append-add, get_or-drop, get_or-take, take_at}
use borrow.Author.Tests.{ltb-false, le-ltb}
use Rattle.terms.specs.Automaton.{Transition, Small, has}
use Rattle.terms.specs.Form.{Rule, value_at}
use Rattle.terms.specs.Relation.{relation_at}
use Rattle.terms.specs.Sheet.{transitions_of}
use Rattle.terms.specs.Check.{alphabet_refusal, automaton_refusal}
use Rattle.terms.specs.FormBytes.{rule_count, start_of, form_rules, form_refusal, form_tree}
use Rattle.terms.specs.Calls.{lent_after, evaluation_refusal, relations_of, form_mask}
use Rattle.terms.proofs.Tabulate.{length-tabulate, get_d_tabulate, tabulated}
use Rattle.terms.proofs.Refusal.{none_before, no_row}
use Rattle.terms.proofs.Sheet.Passed.{alphabet_passed}
use Rattle.terms.proofs.Sheet.Automaton.{automaton_passed, automaton_small}
use Rattle.terms.proofs.Form.Bytes.{FormPassed, form_passed, rank_le}
use Rattle.terms.proofs.Automaton.Mask.{mask_lt}
use Rattle.terms.proofs.Automaton.Entry.{entry_closed}
use Rattle.adding_terms.specs.Dependence.{Depends, itself, through}
use Rattle.adding_terms.specs.Adding.{longer, new_terminal, no_room, wrong_transition, adding_refusal, redone, added_relations, added_mask}
use Rattle.adding_terms.specs.Claims.{EntriesRedone, HeldOld, CarriedOver, RunsKept, LowBitsRead}
use Rattle.adding_terms.proofs.Dependence.{depends_iff, not_depends, depends_not}
use Rattle.adding_terms.proofs.Redone.{relation_local, ends, length-redone, redone_at, redone-again, redone-kept}
use Rattle.adding_terms.proofs.Longer.{Addable, addable, new_transition, new-terminal, longer_transitions}
use Rattle.adding_terms.proofs.Same.{entry-fresh}
use Rattle.adding_terms.proofs.Runs.{runs-kept, bit_kept}
use Rattle.adding_terms.proofs.Low.{same-again}

-- what is let through
pub record AddingPassed (alphabet form automaton new : List ℕ) (numbers : ℕ) : Type 0 where
  pub alphabet_passes : alphabet_refusal alphabet ≡ 0
  pub automaton_passes : automaton_refusal alphabet automaton ≡ 0
  pub form_passes : form_refusal alphabet form ≡ 0
  pub addition : Addable alphabet automaton new
  pub valid : FormPassed alphabet form
  pub room : rule_count form ≤ numbers

pub adding_passed : (alphabet form automaton new : List ℕ) (numbers : ℕ) → adding_refusal alphabet form automaton new numbers ≡ 0
    → AddingPassed alphabet form automaton new numbers
unfolding adding_refusal
adding_passed alphabet form automaton new numbers e =
    let (a, r) = none_before (alphabet_refusal alphabet) _ e in
    let (full, s) = no_row 13 (no_room automaton) _ r in
    let (b, t) = none_before (automaton_refusal alphabet automaton) _ s in
    let (wrong, u) = no_row 28 (wrong_transition alphabet automaton new) _ t in
    let (c, v) = none_before (form_refusal alphabet form) _ u in
    record {
      alphabet_passes = a;
      automaton_passes = b;
      form_passes = c;
      addition = addable alphabet automaton new b full wrong;
      valid = form_passed alphabet form c;
      room = ltb-false numbers (rule_count form) (no_row 18 (ltb numbers (rule_count form)) 0 v).0;
    }

in_range : {rules : List Rule} {f i : ℕ} → Depends rules f i → i < length rules
in_range (itself h t) = h
in_range (through h c d) = h

module _ (alphabet form automaton new : List ℕ) (numbers : ℕ) (passed : adding_refusal alphabet form automaton new numbers ≡ 0) where
  p : AddingPassed alphabet form automaton new numbers
  p = adding_passed alphabet form automaton new numbers passed

  abbrev rules : List Rule
  rules = form_rules alphabet form

  abbrev f : ℕ
  f = new_terminal new

  abbrev old : List Transition
  old = transitions_of alphabet automaton

  abbrev δ : List Transition
  δ = transitions_of alphabet (longer automaton new)

  abbrev τ : Transition
  τ = new_transition alphabet automaton new

  -- the transitions of the longer automaton are the old ones and the new one
  δ_is : δ ≡ old ++ (τ ∷ [])
  δ_is = longer_transitions automaton new p.addition.old.long p.addition.six alphabet (rank_le alphabet (alphabet_passed alphabet p.alphabet_passes).ranks)

  terminal-is : τ.terminal ≡ f
  terminal-is = new-terminal automaton new p.addition.old.long p.addition.six alphabet

  small : Small old
  small = automaton_small alphabet automaton p.addition.old

  small' : Small δ
  small' = automaton_small alphabet (longer automaton new) (automaton_passed alphabet (longer automaton new) p.addition.passes)

  -- a run of the old automaton is one of the longer
  pub old-runs : RunsKept old δ
  old-runs = rw δ_is (runs-kept old τ)

  within : (i : ℕ) → i < rule_count form → i < length rules
  within i h = omega (arith, p.valid.count)

  module _ (held : List ℕ) where
    abbrev now : ℕ → ℕ
    now = ends δ f p.valid.valid held

    length_added : length (added_relations alphabet form automaton new held) ≡ rule_count form
    unfolding added_relations
    length_added = length-redone δ f p.valid.valid held (rule_count form)

    added_at : (i : ℕ) → i < rule_count form → get_or (added_relations alphabet form automaton new held) i 0 ≡ now i
    unfolding added_relations
    added_at i h = redone_at δ f p.valid.valid held (rule_count form) i h

    -- the slice that is left
    abbrev left : List ℕ
    left = lent_after 0 (added_relations alphabet form automaton new held) held

    left_at : (i : ℕ) → i < rule_count form → get_or left i 0 ≡ now i
    left_at i h = get_or-append (added_relations alphabet form automaton new held) _ 0 i (omega (arith, length_added)) ∙ added_at i h

    left_behind : (i : ℕ) → rule_count form ≤ i → get_or left i 0 ≡ get_or held i 0
    left_behind i h =
        let written = added_relations alphabet form automaton new held in
        let n = length written in
        let e : n + (i - n) ≡ i = omega (arith, length_added) in
        rw e at (get_or-append-add written (drop n held) (i - n) 0) ∙ get_or-drop n held (i - n) 0 ∙ rw e

    -- an entry is redone exactly where its rule depends on the terminal
    pub redone_right : numbers ≡ length held → EntriesRedone alphabet form automaton new held left (added_mask alphabet form automaton new held)
    unfolding added_mask
    redone_right all = record {
      again = λ i d. let l = in_range d in
          let m : i < rule_count form = omega (arith, p.valid.count) in
          left_at i m ∙ redone-again δ f p.valid.valid held i l ((depends_iff f p.valid.valid i l).1 d)
          ∙ relation_local δ p.valid.valid i l now (λ j. get_or left j 0) (λ j k. sym (left_at j (omega arith)));
      kept = λ i n. go i n (dec_lt i (rule_count form));
      long = let written = added_relations alphabet form automaton new held in
          omega (arith, length-append written (drop (length written) held), length-drop (length written) held, length_added, p.room);
      answer = ap (λ (x : ℕ). x % 2 ^ 8) (added_at (start_of form) p.valid.start.below ∙ sym (left_at (start_of form) p.valid.start.below));
    }
      where
        go : (i : ℕ) → (Depends rules f i → ⊥) → Dec (i < rule_count form) → get_or left i 0 ≡ get_or held i 0
        go i n (yes m) = left_at i m ∙ redone-kept δ f p.valid.valid held i (within i m) (not_depends f p.valid.valid i (within i m) n)
        go i n (no m) = left_behind i (omega arith)

    -- where the slice held the old automaton's relations
    module _ (was : HeldOld alphabet form automaton held) where
      held-old : (i : ℕ) → i < rule_count form → get_or held i 0 ≡ relation_at old rules i
      unfolding relations_of
      held-old i h = sym (get_or-take (rule_count form) held i 0 h) ∙ ap (λ (xs : List ℕ). get_or xs i 0) was ∙ get_d_tabulate (rule_count form) (relation_at old rules) 0 i h

      -- entry i ends as that of a fresh evaluation of the longer automaton
      entry-carried : (i : ℕ) → i < rule_count form → now i ≡ relation_at δ rules i
      entry-carried i h =
          rw (δ_is, ← terminal-is) (entry-fresh old τ small (rw δ_is at small') p.valid.valid held (λ j m. held-old j (omega (arith, p.valid.count))) i (within i h))

      relations-carried : added_relations alphabet form automaton new held ≡ relations_of alphabet (longer automaton new) form
      unfolding relations_of
      relations-carried = sym (tabulated (rule_count form) (relation_at δ rules) 0 _ length_added (λ i h. sym (added_at i h ∙ entry-carried i h)))

      mask-carried : added_mask alphabet form automaton new held ≡ form_mask alphabet (longer automaton new) form
      unfolding added_mask form_mask form_tree
      mask-carried =
          let first = p.valid.start in
          rw (added_at (start_of form) first.below, entry-carried (start_of form) first.below, entry_closed δ p.valid.valid (start_of form) (within (start_of form) first.below) first.rank)
          (mod_small (mask_lt δ _))
        where
          mod_small : {x : ℕ} → x < 2 ^ 8 → x % 2 ^ 8 ≡ x
          mod_small h = omega arith

      bit-carried : (i k : ℕ) → has (get_or held i 0) k ≡ true → Dec (i < rule_count form) → has (get_or left i 0) k ≡ true
      bit-carried i k e (yes h) =
          rw (left_at i h, entry-carried i h) (bit_kept small small' old-runs (value_at rules i) k (rw (held-old i h) at e))
      bit-carried i k e (no h) = rw (left_behind i (omega arith)) e

      pub carries_over : numbers ≡ length held → CarriedOver alphabet form automaton new held left (added_mask alphabet form automaton new held)
      unfolding evaluation_refusal
      carries_over all = record {
        fresh = rw (p.alphabet_passes, p.addition.passes, p.form_passes, le-ltb (length held) (rule_count form) (omega (arith, p.room)));
        relations = ap (λ (xs : List ℕ). lent_after 0 xs held) relations-carried;
        answer = mask-carried;
        bits = λ i k e. bit-carried i k e (dec_lt i (rule_count form));
      }

  -- of an entry of rank 0 only bits 0 to 7 are read
  pub low_bits_read : LowBitsRead alphabet form automaton new
  low_bits_read held held' same i d =
      let l = in_range d in
      let m : i < rule_count form = omega (arith, p.valid.count) in
      added_at held i m
      ∙ same-again δ f p.valid.valid held held' (λ j h n. same j (omega (arith, p.valid.count)) (depends_not f p.valid.valid j h n)) i l ((depends_iff f p.valid.valid i l).1 d)
      ∙ sym (added_at held' i m)

-- evaluating the old automaton leaves its relations in the slice
pub evaluated : (alphabet form automaton held : List ℕ) → HeldOld alphabet form automaton (lent_after 0 (relations_of alphabet automaton form) held)
unfolding relations_of
evaluated alphabet form automaton held =
    take_at (relations_of alphabet automaton form) _ (rule_count form) (length-tabulate (rule_count form) (relation_at (transitions_of alphabet automaton) (form_rules alphabet form)))
