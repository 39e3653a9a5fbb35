-- A form that is opened once and then read by rule number (document 01, "One-hole form").
use Rattle.std.specs.Prelude.{List, [], ◌∷◌, ℕ, zero, suc, ◌+◌, ◌≡◌, leb, ltb, length, Result, Ok, Err, MatchResult}
use Rattle.terms.specs.declared.refusals.Refusal.{Refusal}
use Rattle.terms.specs.declared.refusals.Refusal.TheVariants.{NoPlace}
use Rattle.terms.specs.Refusal.{◌when◌, first}
use Rattle.terms.specs.FormBytes.{form_length, rule_count, terminal_count, table_of}
use Rattle.terms.specs.Answer.{Answer, refused, answered, answer, number_of}
use Rattle.form_bytes.specs.declared.rule.FormRule.{FormRule}
use Rattle.form_bytes.specs.Fields.{fields_at}
use Rattle.opening.specs.declared.OpenForm.{OpenForm}

-- how many rules of a form can be read: R, or none where opening refused it (01 One-hole form)
abbrev pub opened_rules : List ℕ → ℕ → ℕ
opened_rules form zero = rule_count form
opened_rules form (suc n) = 0

-- reading rule i of a form with so many rules: what opening refused, else 21 where i is not below the rules or rule i does not stand whole in the bytes (01 One-hole form)
abbrev pub opened_refusal : List ℕ → ℕ → ℕ → ℕ → ℕ
opened_refusal form rules refusal i = first (refusal ∷ 21 when (leb rules i) ∷ 21 when (ltb (length form) (form_length (terminal_count form) (i + 1))) ∷ [])

-- the refusal, or that rule's kind, terminal, hole and four slots (01 One-hole form)
abbrev pub opened_reading : List ℕ → ℕ → ℕ → ℕ → Answer FormRule
opened_reading form rules refusal i = answer (opened_refusal form rules refusal i) (fields_at (table_of form) i)

-- reading rule i of a form of which so many rules were found, or which was refused: that refusal is handed on as it is; else it is the rule that the bytes have, or
-- the error that is made of 21 where they have none (01 One-hole form)
abbrev pub IsRuleOf : {E : Type 0} → (Refusal → E → Type 0) → List ℕ → Result ℕ E → ℕ → Result FormRule E → Type 0
IsRuleOf made form (Err error) i read = read ≡ Err error
IsRuleOf made form (Ok rules) i read =
    let reading = opened_reading form rules 0 i in
    MatchResult read (λ rule. reading ≡ answered rule) (λ error. (reading ≡ refused 21) × made NoPlace error)

-- how many rules opening found, none where it refused the form (01 One-hole form)
abbrev pub rules_found : Result ℕ Refusal → ℕ
rules_found (Ok rules) = rules
rules_found (Err refusal) = 0

-- so many rules, or the number of what opening refused, where that is not 0 (01 One-hole form)
abbrev pub opened_by_number : ℕ → ℕ → Result ℕ ℕ
opened_by_number rules zero = Ok rules
opened_by_number rules (suc n) = Err (suc n)

-- reading rule i of what opening answered: of a form that it refused it says that refusal (01 One-hole form)
abbrev pub reading_of : Result OpenForm Refusal → ℕ → Answer FormRule
reading_of (Ok opened) i = opened_reading opened.form.now opened.rules 0 i
reading_of (Err refusal) i = refused (number_of refusal)
