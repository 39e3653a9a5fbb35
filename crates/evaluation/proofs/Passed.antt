-- What evaluation lets through.
use mathlib.Core.Path.{◌≡◌}
use mathlib.Core.List.{List}
use Prim.Native.Nat.{ℕ, ◌≤◌}
use lib.Dec.{ltb}
use borrow.Author.Tests.{ltb-false}
use Rattle.terms.specs.Automaton.{Small}
use Rattle.terms.specs.Sheet.{transitions_of}
use Rattle.terms.specs.Check.{alphabet_refusal, automaton_refusal}
use Rattle.terms.specs.FormBytes.{rule_count, form_refusal}
use Rattle.terms.specs.Calls.{evaluation_refusal}
use Rattle.terms.proofs.Refusal.{none_before, no_row}
use Rattle.terms.proofs.Sheet.Automaton.{automaton_passed, automaton_small}
use Rattle.terms.proofs.Form.Bytes.{FormPassed, form_passed}

pub record EvaluationPassed (alphabet automaton form : List ℕ) (numbers : ℕ) : Type 0 where
  pub alphabet_passes : alphabet_refusal alphabet ≡ 0
  pub automaton_passes : automaton_refusal alphabet automaton ≡ 0
  pub form_passes : form_refusal alphabet form ≡ 0
  pub small : Small (transitions_of alphabet automaton)
  pub valid : FormPassed alphabet form
  pub room : rule_count form ≤ numbers

pub evaluation_passed : (alphabet automaton form : List ℕ) (numbers : ℕ) → evaluation_refusal alphabet automaton form numbers ≡ 0
    → EvaluationPassed alphabet automaton form numbers
unfolding evaluation_refusal
evaluation_passed alphabet automaton form numbers e =
    let (a, r) = none_before (alphabet_refusal alphabet) _ e in
    let (b, s) = none_before (automaton_refusal alphabet automaton) _ r in
    let (c, t) = none_before (form_refusal alphabet form) _ s in
    record {
      alphabet_passes = a;
      automaton_passes = b;
      form_passes = c;
      small = automaton_small alphabet automaton (automaton_passed alphabet automaton b);
      valid = form_passed alphabet form c;
      room = ltb-false numbers (rule_count form) (no_row 18 (ltb numbers (rule_count form)) 0 t).0;
    }
