-- The line of a sheet by its marking, with room for the largest sheet.
use mathlib.Core.Path.{◌≡◌, refl, sym, ap, subst, ◌∙◌}
use mathlib.Core.List.{List}
use Prim.Native.Nat.{ℕ, zero, suc}
use native.Mathlib.Omega.{arith}
use lib.ListN.{length, replicate, length-replicate}
use Rattle.terms.specs.Sheet.{Verdict, alphabet_of, sheet_tree, sheet_mask, sheet_verdict}
use Rattle.terms.specs.Check.{most_terminals, sheet_refusal}
use Rattle.terms.specs.FormBytes.{form_length}
use Rattle.terms.specs.Count.{size_of, capped}
use Rattle.terms.specs.Calls.{most_asked, making_refusal, sheet_marking_refusal, MarkAnswer, sheet_mark}
use Rattle.terms.proofs.Sheet.Passed.{alphabet_passed, sheet_passed}
use Rattle.terms.proofs.Sheet.Asked.{just_enough}
use Rattle.making.specs.Making.{form_of}
use Rattle.making.proofs.Formed.{form_of_lem, written-first}
use Rattle.terms.specs.Answer.{Answer, refused, answered, answer}
use Rattle.marking.specs.Marking.{SlicesLeft}
use Rattle.mark_line.specs.Line.{line_of}
use Rattle.mark_line.specs.Private.MarkedForm.{MarkedForm}

-- where there is room for the largest sheet, marking refuses what is refused of the sheet alone
room_enough : (sheet : List ℕ) (room numbers : ℕ) → room ≡ form_length most_terminals most_asked → numbers ≡ most_asked → sheet_marking_refusal sheet room numbers ≡ sheet_refusal sheet
unfolding sheet_marking_refusal making_refusal
room_enough sheet room numbers a b = go (sheet_refusal sheet) refl
  where
    go : (n : ℕ) → sheet_refusal sheet ≡ n → sheet_marking_refusal sheet room numbers ≡ n
    go zero e =
        let enough = just_enough sheet e in
        let few = (alphabet_passed (alphabet_of sheet) (sheet_passed sheet e).alphabet).few in
        enough.marks room numbers (omega (arith, enough.most)) (omega (arith, enough.most))
    go (suc n) e = rw e

-- an answer of marking as a line, with a size
abbrev line : MarkAnswer → ℕ → Answer (Verdict × ℕ × ℕ)
line (refused n) size = refused n
line (answered (verdict, mask)) size = answered (verdict, mask, size)

mark_line : (k : ℕ) (v : Verdict) (mask size : ℕ) → line (answer k (v, mask)) size ≡ answer k (v, mask, size)
mark_line zero v mask size = refl
mark_line (suc k) v mask size = refl

-- an answer that is no refusal
not_refused : (k : ℕ) (mark mark' : Verdict × ℕ) → answer k mark ≡ answered mark' → k ≡ 0
not_refused zero mark mark' e = refl
not_refused (suc k) mark mark' e = absurd (let z : ◌≡◌ {A = ℕ} 0 1 = cc in omega arith)

-- the slices as they are lent, with room for the largest sheet
abbrev form : List ℕ
form = replicate (form_length most_terminals most_asked) 0

abbrev relations : List ℕ
relations = replicate most_asked 0

module _ (sheet : List ℕ) {r : MarkAnswer} (given : answer (sheet_marking_refusal sheet (length form) (length relations)) (sheet_mark sheet) ≡ r) where
  abbrev refusal : ℕ
  refusal = sheet_marking_refusal sheet (length form) (length relations)

  only_sheet : refusal ≡ sheet_refusal sheet
  only_sheet = room_enough sheet (length form) (length relations) (length-replicate {A = ℕ} (form_length most_terminals most_asked) 0) (length-replicate {A = ℕ} most_asked 0)

  pub lined : line r (capped (size_of (sheet_tree sheet))) ≡ line_of sheet
  lined =
      let size = capped (size_of (sheet_tree sheet)) in
      ap (λ (x : MarkAnswer). line x size) (sym given) ∙ mark_line refusal (sheet_verdict sheet) (sheet_mask sheet) size
      ∙ ap (λ (k : ℕ). answer k (sheet_verdict sheet, sheet_mask sheet, size)) only_sheet

  -- the sheet passes, and the slice begins with its form
  pub form-marked : {mark : Verdict × ℕ} → r ≡ answered mark → (form' relations' : List ℕ) → length form' ≡ length form → SlicesLeft refusal sheet form' form relations' relations → MarkedForm sheet form'
  form-marked h form' relations' same s =
      let none = not_refused refusal (sheet_mark sheet) _ (given ∙ h) in
      let left = subst (λ (k : ℕ). SlicesLeft k sheet form' form relations' relations) none s in
      record {
        passes = sym only_sheet ∙ none;
        written = length (form_of sheet);
        formed = rw (written-first (form_of sheet) form refl left.formed) (form_of_lem sheet (left.made refl).holds);
        within = omega (arith, (left.made refl).within, same);
      }
