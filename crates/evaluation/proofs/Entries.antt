-- The entries of a form's rules in a lent slice: what runs say of them, and the mask.
use mathlib.Core.Path.{◌≡◌, refl, sym, ap, subst, ◌∙◌}
use mathlib.Core.List.{List}
use Prim.Native.Nat.{ℕ, ◌-◌, ◌%◌, ◌<◌}
use lib.ListN.{length}
use native.Mathlib.Nat.{mod-eq_of_lt}
use native.Mathlib.Omega.{arith}
use Rattle.terms.specs.Form.{value_at}
use Rattle.terms.specs.Sheet.{transitions_of}
use Rattle.terms.specs.FormBytes.{rule_count, table_count, start_of, table_of, form_rules, form_tree}
use Rattle.terms.specs.Runs.{EntryRuns, EvaluationRuns}
use Rattle.terms.specs.Calls.{lent_after, relations_of, form_mask}
use Rattle.terms.proofs.Form.Bytes.{table_count_lem}
use Rattle.terms.proofs.Automaton.Mask.{mask_lt, mask_iff}
use Rattle.terms.proofs.Automaton.Entry.{entry_runs, entry_closed}
use Rattle.forms.proofs.Rules.{valid_table}
use Rattle.entries.specs.Entries.{entry_in, relations_in, written_from}
use Rattle.entries.proofs.Entries.{entry_at, entry_in_lem, all-written}
use Rattle.evaluation.proofs.Passed.{EvaluationPassed}

-- a form and its table
module _ {alphabet automaton form : List ℕ} {numbers : ℕ} (p : EvaluationPassed alphabet automaton form numbers) where
  -- the entries of the form's rules are those of its table
  pub form-entries : (table : List ℕ) → table ≡ table_of form → relations_in alphabet automaton table ≡ relations_of alphabet automaton form
  unfolding relations_of
  form-entries table t = rw (t, table_count_lem form p.valid.long)

  -- the entries of all rules, worked out from the lowest on
  pub form_written : (entry : List ℕ) → length entry ≡ numbers → (n : ℕ) → n ≡ table_count (table_of form) → (exit : List ℕ)
      → exit ≡ written_from alphabet automaton (table_of form) 0 (n - 0) entry → exit ≡ lent_after 0 (relations_of alphabet automaton form) entry
  form_written entry long n e exit written =
      let v = valid_table alphabet form p.alphabet_passes p.form_passes in
      written ∙ all-written alphabet automaton (table_of form) p.small v n e entry (omega (arith, p.room, table_count_lem form p.valid.long))
      ∙ ap (λ (xs : List ℕ). lent_after 0 xs entry) (form-entries (table_of form) refl)

  module _ (entry relations : List ℕ) (written : relations ≡ lent_after 0 (relations_of alphabet automaton form) entry) where
    -- the entry of each rule
    entry-is : (i : ℕ) → i < rule_count form → entry_in relations i ≡ entry_at alphabet automaton (table_of form) i
    unfolding relations_of
    entry-is i h = rw written (entry_in_lem (rule_count form) (entry_at alphabet automaton (table_of form)) _ i h)

    -- the low byte of the start's entry is the mask of the form's tree
    pub start-mask : (start : ℕ) → start ≡ start_of form → entry_in relations start % 256 ≡ form_mask alphabet automaton form
    unfolding form_mask form_tree
    start-mask start is =
        let δ = transitions_of alphabet automaton in
        let first = p.valid.start in
        rw (is, entry-is (start_of form) first.below, entry_closed δ p.valid.valid (start_of form) (omega (arith, first.below, p.valid.count)) first.rank)
        (mod-eq_of_lt (mask_lt δ _))

    -- the entries and the mask are what runs say
    pub right_by_runs : (mask : ℕ) → mask ≡ form_mask alphabet automaton form → EvaluationRuns alphabet automaton form relations mask
    unfolding form_mask
    right_by_runs mask e =
        let δ = transitions_of alphabet automaton in
        record {
          entries = λ i h. subst (EntryRuns δ (value_at (form_rules alphabet form) i)) (sym (entry-is i h)) (entry_runs δ p.small (value_at (form_rules alphabet form) i));
          answer = rw e (mask_iff δ p.small (form_tree alphabet form));
        }
