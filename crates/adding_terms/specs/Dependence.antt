-- Which rules of a form depend on a terminal (document 02, R-8): only their relations can change with a transition for it.
use Rattle.std.specs.Prelude.{◌≡◌, Bool, false, ◌||◌, List, [], ◌∷◌, ◌++◌, ℕ, suc, ◌<◌, T, eqb, length, get_or}
use Rattle.terms.specs.Test.{any}
use Rattle.terms.specs.Table.{entry}
use Rattle.terms.specs.Form.{Rule, whole, pierced, filled, composed, rule_at}

-- the rules that a rule calls directly: its slots that are used (02 R-8)
abbrev pub calls_of : Rule → List ℕ
calls_of (whole f slots) = slots
calls_of (pierced f ls rs) = ls ++ rs
calls_of (filled b c) = b ∷ c ∷ []
calls_of (composed b c) = b ∷ c ∷ []

-- the rule is of kind 0 or 1 with the terminal f (02 R-8)
abbrev pub has_terminal : ℕ → Rule → Bool
has_terminal f (whole g slots) = eqb g f
has_terminal f (pierced g ls rs) = eqb g f
has_terminal f (filled b c) = false
has_terminal f (composed b c) = false

-- rule j stands among the rules that are called (02 R-8)
abbrev pub Called : List ℕ → ℕ → Type 0
Called slots j = (k : ℕ) × (k < length slots) × (get_or slots k 0 ≡ j)

-- rule i, or one that it calls directly or through others, is of kind 0 or 1 with the terminal f (02 R-8)
pub data Depends (rules : List Rule) (f : ℕ) : ℕ → Type 0 where
  itself : {i : ℕ} → i < length rules → T (has_terminal f (rule_at rules i)) → Depends rules f i
  through : {i j : ℕ} → i < length rules → Called (calls_of (rule_at rules i)) j → Depends rules f j → Depends rules f i

-- the same as a test of one rule, where d tests the rules that it calls (02 R-8)
abbrev pub depends_of : ℕ → Rule → (ℕ → Bool) → Bool
depends_of f r d = has_terminal f r || any d (calls_of r)

-- the same as a test of rule i of a form (02 R-8)
unfoldable pub depends_at : ℕ → List Rule → ℕ → Bool
depends_at f rules i = entry (whole 0 []) false (depends_of f) rules (suc i) i
