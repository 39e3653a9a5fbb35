-- Results that a call hands out through a pointer (document 01, "Refusals with a sheet for each": a refusal is its number only).
use Rattle.std.specs.Prelude.{List, [], ◌∷◌, ℕ, zero, suc, leb, ltb, Result, Ok, Err}
use Rattle.terms.specs.declared.refusals.Refusal.{Refusal}
use Rattle.terms.specs.Refusal.{◌when◌, first}
use Rattle.terms.specs.FormBytes.{rule_count}
use Rattle.terms.specs.Count.{Size, exact, over, largest}
use Rattle.terms.specs.Calls.{opening_refusal}
use Rattle.form_bytes.specs.declared.rule.FormRule.{FormRule}

-- what stands behind the pointer after a call: the result, or what stood there before where the call was refused (01 Refusals)
abbrev pub result_after : ℕ → ℕ → ℕ → ℕ
result_after zero result before = result
result_after (suc n) result before = before

-- what stands behind the pointer after a call: the value that is answered, or what stood there before where the call was refused (01 Refusals)
abbrev pub value_or : {A : Type 0} → Result A Refusal → A → A
value_or (Ok value) before = value
value_or (Err refusal) before = before

-- a size as a number of 64 bits: the largest represents "over" (01 Size, label)
abbrev pub size_number : Size → ℕ
size_number (exact n) = n
size_number over = largest

-- a rule as seven numbers: kind, terminal, hole and four slots (01 One-hole form)
abbrev pub rule_numbers : FormRule → List ℕ
rule_numbers r = r.kind ∷ r.terminal.0 ∷ r.hole ∷ r.slot0.0 ∷ r.slot1.0 ∷ r.slot2.0 ∷ r.slot3.0 ∷ []

-- reading a rule into a slice: 3, 4, 18, 28, then 19 for a slice of fewer than seven numbers, then 21 (01 Refusals, 02 R-5)
unfoldable pub rule_call_refusal : List ℕ → List ℕ → ℕ → ℕ → ℕ
rule_call_refusal alphabet form number room = first (
    opening_refusal alphabet form
    ∷ 19 when (ltb room 7)
    ∷ 21 when (leb (rule_count form) number)
    ∷ [])
