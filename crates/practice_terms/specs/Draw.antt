-- The generator of practice sheets, its draws, and what they choose (document 02, R-2).
use Rattle.std.specs.Prelude.{Bool, cond, List, [], ◌∷◌, ℕ, zero, suc, ◌+◌, ◌*◌, ◌^◌, ◌/◌, ◌%◌, eqb, get_or, drop}

-- the generator's step (02 R-2)
unfoldable pub next : ℕ → ℕ
next x = (1664525 * x + 1013904223) % 2 ^ 32

-- the draw of the number that a step has led to (02 R-2)
abbrev pub draw : ℕ → ℕ
draw x = x / 65536

-- the first n draws from a first x, a step before each (02 R-2)
unfoldable pub draws : ℕ → ℕ → List ℕ
draws zero x = []
draws (suc n) x = let y = next x in draw y ∷ draws n y

-- draw number n of those that are left, counted from 0 (02 R-2)
abbrev pub draw_at : List ℕ → ℕ → ℕ
draw_at ds n = get_or ds n 0

-- a draw is even (02 R-2)
abbrev pub is_even : ℕ → Bool
is_even d = eqb (d % 2) 0

-- the right side of a rule that is drawn: call j on call k on y1, or f(call j on y1, a) (02 R-2)
pub data Choice : Type 0 where
  calls : ℕ → ℕ → Choice
  beside : ℕ → Choice

-- what draws choose for rule i: behind an even draw stand j and then k, behind an odd one j, each taken mod i (02 R-2)
abbrev pub choice : ℕ → List ℕ → Choice
choice i ds = cond (is_even (draw_at ds 0)) (calls (draw_at ds 1 % i) (draw_at ds 2 % i)) (beside (draw_at ds 1 % i))

-- how many draws that takes (02 R-2)
abbrev pub taken : List ℕ → ℕ
taken ds = cond (is_even (draw_at ds 0)) 3 2

-- what draws choose for n rules from rule i on (02 R-2)
unfoldable pub choices_by : ℕ → ℕ → List ℕ → List Choice
choices_by zero i ds = []
choices_by (suc n) i ds = choice i ds ∷ choices_by n (suc i) (drop (taken ds) ds)

-- the choices for rules 1 to m from a first x; a rule takes at most three draws (02 R-2)
unfoldable pub choices : ℕ → ℕ → List Choice
choices x m = choices_by m 1 (draws (3 * m) x)
