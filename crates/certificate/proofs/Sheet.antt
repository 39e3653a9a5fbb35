-- The contents of a sheet whose form was made join.
use mathlib.Core.Path.{◌≡◌, ap}
use mathlib.Core.Bool.{true}
use mathlib.Core.List.{List}
use Prim.Native.Nat.{ℕ, ◌≤◌}
use lib.ListN.{length}
use Rattle.terms.specs.Check.{joins, sheet_refusal}
use Rattle.std.specs.Prelude.{Result, Ok}
use Rattle.terms.specs.declared.refusals.Refusal.{Refusal}
use Rattle.terms.specs.Answer.{answer, answer_of}
use Rattle.terms.specs.Calls.{making_refusal}
use Rattle.making.specs.Making.{form_of, form_left, FormMade}
use Rattle.making.proofs.Formed.{makes, wrote}
use Rattle.terms.proofs.Test.{is_true}
use Rattle.terms.proofs.Refusal.{none_before}
use Rattle.terms.proofs.Sheet.Passed.{sheet_passed}

contents_of : (sheet : List ℕ) (room : ℕ) → making_refusal sheet room ≡ 0 → (12 ≤ length sheet) × (joins sheet ≡ true)
unfolding making_refusal
contents_of sheet room passes =
    let passed = sheet_passed sheet (none_before (sheet_refusal sheet) _ passes).0 in
    (passed.long, is_true (joins sheet) passed.joined)

-- of a sheet whose form making, with its promises, answered a length
pub contents_join : {sheet exit : List ℕ} {made : Result ℕ Refusal} {n : ℕ} (entry : List ℕ)
    → answer_of made ≡ answer (making_refusal sheet (length entry)) (length (form_of sheet)) → exit ≡ form_left sheet entry
    → (making_refusal sheet (length entry) ≡ 0 → FormMade sheet (length entry)) → made ≡ Ok n → (12 ≤ length sheet) × (joins sheet ≡ true)
contents_join {sheet = sheet} entry answered left holds is =
    contents_of sheet (length entry) (wrote (makes sheet entry (answered, (left, holds))) (ap answer_of is)).passes
