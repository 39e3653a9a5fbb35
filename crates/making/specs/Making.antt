-- What form making answers and leaves, and what holds of the form that it writes (document 01, "One-hole form").
use Rattle.std.specs.Prelude.{◌≡◌, List, ℕ, ◌≤◌, length}
use Rattle.terms.specs.Grammar.{Rule, derived}
use Rattle.terms.specs.Form.{form_bound, linear_bound}
use Rattle.terms.specs.FormBytes.{rule_count, form_tree, form_refusal}
use Rattle.terms.specs.Sheet.{alphabet_of, rules_of}
use Rattle.terms.specs.Answer.{Answer, answer}
use Rattle.terms.specs.Calls.{lent_after, making_refusal}
use Rattle.skeletons.specs.Form.{made_form}
use Rattle.cleaning_terms.specs.Cleaning.{cleaned}

-- the form that is made of a sheet, of its cleaned rules: its bytes depend on the sheet alone (01 One-hole form, 02 R-3)
abbrev pub form_of : List ℕ → List ℕ
form_of sheet = made_form (alphabet_of sheet) (cleaned (alphabet_of sheet) (rules_of sheet))

-- the lent slice after form making: the form, and then its later bytes (01 One-hole form)
abbrev pub form_left : List ℕ → List ℕ → List ℕ
form_left sheet entry = lent_after (making_refusal sheet (length entry)) (form_of sheet) entry

-- what holds of the bytes of a form of a grammar: they are accepted, derive the grammar's tree and keep both bounds (01 One-hole form)
pub record FormHolds (alphabet : List ℕ) (grammar : List Rule) (form : List ℕ) : Type 0 where
  pub accepted : form_refusal alphabet form ≡ 0
  pub tree : form_tree alphabet form ≡ derived alphabet grammar
  pub few : rule_count form ≤ form_bound grammar
  pub linear : rule_count form ≤ linear_bound grammar

-- what holds of the form that is made of a sheet, where nothing is refused of it and of so many bytes lent (01 One-hole form)
pub record FormMade (sheet : List ℕ) (room : ℕ) : Type 0 where
  pub holds : FormHolds (alphabet_of sheet) (rules_of sheet) (form_of sheet)
  pub within : length (form_of sheet) ≤ room

-- form making as one of several calls in turn: its answer, the slice and what holds of the form (01 One-hole form)
pub record Makes (sheet : List ℕ) (r : Answer ℕ) (exit entry : List ℕ) : Type 0 where
  pub answered : r ≡ answer (making_refusal sheet (length entry)) (length (form_of sheet))
  pub left : exit ≡ form_left sheet entry
  pub made : making_refusal sheet (length entry) ≡ 0 → FormMade sheet (length entry)
