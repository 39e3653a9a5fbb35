-- What `rule_of` answers where its errors are the refusals, or their numbers (document 01, "One-hole form").
use Rattle.std.proofs.Common.{◌≡◌, ℕ, zero, suc, List, refl, sym, ◌∙◌, ap}
use Rattle.std.specs.Prelude.{Result, Ok, Err}
use Rattle.terms.specs.declared.refusals.Refusal.{Refusal}
use Rattle.terms.specs.Answer.{refused, answer_of, refusal_of, number_of}
use Rattle.terms.proofs.InTurn.{stopped, answers_refusal}
use Rattle.form_bytes.specs.declared.rule.FormRule.{FormRule}
use Rattle.opening.specs.Reading.{answer_of_rule, answer_by_number}
use Rattle.opening.specs.Opening.{IsRuleOf, opened_reading, rules_found, opened_by_number}

module _ (form : List ℕ) (i : ℕ) where
  -- where the errors are numbers, any number that opening refused is said again, and 21 of a place that has no rule
  pub rule-by-number : (rules refusal : ℕ) (read : Result FormRule ℕ)
      → IsRuleOf (λ reason n. n ≡ number_of reason) form (opened_by_number rules refusal) i read
      → answer_by_number read ≡ opened_reading form rules refusal i
  rule-by-number rules zero (Ok rule) reads = sym reads
  rule-by-number rules zero (Err n) (none, made) = ap refused made ∙ sym none
  rule-by-number rules (suc n) read handed = ap answer_by_number handed

  -- where they are the refusals, what opening refused is said again, and that there is no place
  pub rule-by-refusal : (opened : Result ℕ Refusal) (read : Result FormRule Refusal)
      → IsRuleOf (λ reason refusal. refusal ≡ reason) form opened i read
      → answer_of_rule read ≡ opened_reading form (rules_found opened) (refusal_of opened) i
  rule-by-refusal (Ok rules) (Ok rule) reads = sym reads
  rule-by-refusal (Ok rules) (Err refusal) (none, made) = ap (λ (e : Refusal). refused (number_of e)) made ∙ sym none
  rule-by-refusal (Err refusal) read handed =
      ap answer_of handed ∙ sym (answers_refusal refusal _ _ (sym (stopped refusal (number_of refusal) _ refl)))
