-- What the blackboard method and the four calls of demand 3 answer and leave, and what is claimed of them (document 02, R-7).
use Rattle.std.specs.Prelude.{◌≡◌, List, ℕ, ◌*◌, ◌≤◌, length}
use Rattle.terms.specs.Sheet.{rules_of, sheet_mask}
use Rattle.terms.specs.Check.{sheet_refusal}
use Rattle.terms.specs.Answer.{answered, answer, answer_of}
use Rattle.terms.specs.Calls.{lent_after, form_asked}
use Rattle.blackboard_terms.specs.Blackboard.{table_length, tables_of, blackboard_refusal}
use Rattle.certificate.specs.Certify.{Slices, CallsMade, Certificate}
use Rattle.two_methods.specs.declared.BothAnswers.{BothAnswers}

-- what each call answers and leaves, whatever the sheet and the slices (02 R-7)
pub record BothCalled (sheet : List ℕ) (r : BothAnswers) (table form : List ℕ) (lent : Slices) (table' form' : List ℕ) (left : Slices) : Type 0 where
  pub tabled : answer_of r.tabled ≡ answer (blackboard_refusal sheet (length table)) (sheet_mask sheet)
  pub tables : table' ≡ lent_after (blackboard_refusal sheet (length table)) (tables_of sheet) table
  pub certified : CallsMade sheet r.certified form lent form' left

-- for every byte string that refusals 1 to 16 let through, with 4,096 bytes for each rule lent, the blackboard method answers the mask that evaluation of the form
-- that is made and, for at most 4,096 nodes, the plain walk answer (02 R-7)
abbrev pub SameMask : List ℕ → BothAnswers → List ℕ → List ℕ → Slices → List ℕ → Slices → Type 0
SameMask sheet r table form lent form' left =
    sheet_refusal sheet ≡ 0 → table_length * length (rules_of sheet) ≤ length table → form_asked sheet ≤ length form
    → (answer_of r.tabled ≡ answered (sheet_mask sheet)) × Certificate sheet r.certified lent form' left
