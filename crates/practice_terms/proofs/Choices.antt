-- What the draws choose: as many choices as rules, each of lower rules.
use mathlib.Core.Path.{◌≡◌, refl, ap}
use mathlib.Core.Bool.{Bool, true, false, cond}
use mathlib.Core.List.{List, [], ◌∷◌}
use Prim.Native.Nat.{ℕ, zero, suc, ◌+◌, ◌*◌, ◌%◌, ◌≤◌, ◌<◌}
use native.Mathlib.Omega.{arith}
use native.Mathlib.Nat.{mod-lt}
use lib.ListN.{length, drop}
use Rattle.terms.specs.Sheet.{written_rule}
use Rattle.practice_terms.specs.Draw.{draws, draw_at, is_even, Choice, calls, beside, choice, taken, choices_by, choices}
use Rattle.practice_terms.specs.Practice.{drawn_rule}

-- the choice for rule i names rules below it
abbrev pub Below : ℕ → Choice → Type 0
Below i (calls j k) = (j < i) × (k < i)
Below i (beside j) = j < i

-- each choice for the rules from rule i on does
abbrev pub AllBelow : ℕ → List Choice → Type 0
AllBelow i [] = Unit {0}
AllBelow i (c ∷ cs) = Below i c × AllBelow (suc i) cs

choice-below : (i : ℕ) → 0 < i → (ds : List ℕ) → Below i (choice i ds)
choice-below i h ds = go (is_even (draw_at ds 0))
  where
    go : (b : Bool) → Below i (cond b (calls (draw_at ds 1 % i) (draw_at ds 2 % i)) (beside (draw_at ds 1 % i)))
    go true = (mod-lt (draw_at ds 1) h, mod-lt (draw_at ds 2) h)
    go false = mod-lt (draw_at ds 1) h

choices-below : (n i : ℕ) → 0 < i → (ds : List ℕ) → AllBelow i (choices_by n i ds)
unfolding choices_by
choices-below zero i h ds = tt
choices-below (suc n) i h ds = (choice-below i h ds, choices-below n (suc i) (omega arith) (drop (taken ds) ds))

length_by : (n i : ℕ) (ds : List ℕ) → length (choices_by n i ds) ≡ n
unfolding choices_by
length_by zero i ds = refl
length_by (suc n) i ds = ap suc (length_by n (suc i) (drop (taken ds) ds))

-- the choices of a practice sheet

pub all-below : (x m : ℕ) → AllBelow 1 (choices x m)
unfolding choices
all-below x m = choices-below m 1 (omega arith) (draws (3 * m) x)

pub length-choices : (x m : ℕ) → length (choices x m) ≡ m
unfolding choices
length-choices x m = length_by m 1 (draws (3 * m) x)

-- how many bytes the rules of choices have: at most six each

abbrev pub choices_length : List Choice → ℕ
choices_length [] = 0
choices_length (c ∷ cs) = length (written_rule (drawn_rule c)) + choices_length cs

pub length_most : (cs : List Choice) → choices_length cs ≤ 6 * length cs
length_most [] = omega arith
length_most (calls j k ∷ cs) = omega (arith, length_most cs)
length_most (beside j ∷ cs) = omega (arith, length_most cs)
