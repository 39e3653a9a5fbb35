-- What reading a rule of a form answers (document 01, "Refusals with a sheet for each", and document 02, R-5: 3, 4, 18, 28 and 21).
use Rattle.std.specs.Prelude.{List, ℕ, Result, Ok, Err}
use Rattle.terms.specs.declared.refusals.Refusal.{Refusal}
use Rattle.terms.specs.FormBytes.{table_of}
use Rattle.terms.specs.Answer.{Answer, refused, answered, answer, answer_of}
use Rattle.terms.specs.Calls.{reading_refusal}
use Rattle.form_bytes.specs.declared.rule.FormRule.{FormRule}
use Rattle.form_bytes.specs.Fields.{fields_at}

-- a rule, for each case (01 One-hole form)
abbrev pub answer_of_rule : Result FormRule Refusal → Answer FormRule
answer_of_rule = answer_of

-- a rule, for each case, where the error is the number of a refusal (01 One-hole form)
abbrev pub answer_by_number : Result FormRule ℕ → Answer FormRule
answer_by_number (Ok rule) = answered rule
answer_by_number (Err n) = refused n

-- reading the rule of a number (01 Refusals)
unfoldable pub rule_reading : List ℕ → List ℕ → ℕ → Answer FormRule
rule_reading alphabet form i = answer (reading_refusal alphabet form i) (fields_at (table_of form) i)
