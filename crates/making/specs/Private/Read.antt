-- The form that is written into a slice with room for it.
use Rattle.std.specs.Prelude.{◌≡◌, List, ℕ, ◌≤◌, length}
use Rattle.terms.specs.Grammar.{Rule}
use Rattle.terms.specs.Calls.{lent_after}
use Rattle.making.specs.Making.{FormHolds}

-- a form of a grammar is written, so many bytes, and the later ones are kept (01 One-hole form)
pub record FormWritten (alphabet : List ℕ) (grammar : List Rule) (form : List ℕ) (n : ℕ) (exit entry : List ℕ) : Type 0 where
  pub long : n ≡ length form
  pub bytes : exit ≡ lent_after 0 form entry
  pub holds : FormHolds alphabet grammar form
  pub within : n ≤ length entry
