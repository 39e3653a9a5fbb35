-- Bytes at the start of a slice after they are written, one after another.
use Rattle.std.specs.Prelude.{◌≡◌, List, ℕ, ◌≤◌, ◌<◌, length, get_or}
use Rattle.blackboard_terms.specs.Step.{lane}

-- the first n bytes are f 0, f 1 and so on, and later ones are kept (02 R-7)
pub record BytesWritten (f : ℕ → ℕ) (n : ℕ) (entry exit : List ℕ) : Type 0 where
  pub long : length exit ≡ length entry
  pub written : (k : ℕ) → k < n → get_or exit k 0 ≡ f k
  pub kept : (k : ℕ) → n ≤ k → get_or exit k 0 ≡ get_or entry k 0

-- the first bytes are the lanes of a relation (02 R-7)
abbrev pub LanesWritten : ℕ → ℕ → List ℕ → List ℕ → Type 0
LanesWritten relation lanes entry exit = BytesWritten (lane relation) lanes entry exit
