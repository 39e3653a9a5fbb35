-- A form that marking left in a slice.
use Rattle.std.specs.Prelude.{◌≡◌, List, ℕ, ◌≤◌, length, take}
use Rattle.terms.specs.Check.{sheet_refusal}
use Rattle.terms.specs.Demand.{FormOfSheet}

-- the sheet is not refused, and the slice begins with a form of it
pub record MarkedForm (sheet form : List ℕ) : Type 0 where
  pub passes : sheet_refusal sheet ≡ 0
  pub written : ℕ
  pub formed : FormOfSheet sheet (take written form)
  pub within : written ≤ length form
