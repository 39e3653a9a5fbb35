-- What the draws of one rule choose from the number that the generator has come to, and what is written of it.
use Rattle.std.specs.Prelude.{◌≡◌, ℕ, ◌+◌, ◌%◌, cond, List, ◌++◌, length, take, drop}
use Rattle.terms.specs.Sheet.{written_rule}
use Rattle.practice_terms.specs.Draw.{next, draw, is_even, Choice, calls, beside}
use Rattle.practice_terms.specs.Practice.{drawn_rule}

-- the choice for rule i, where the generator has come to x
abbrev pub choice_from : ℕ → ℕ → Choice
choice_from i x =
    let a = next x in
    let b = next a in
    cond (is_even (draw a)) (calls (draw b % i) (draw (next b) % i)) (beside (draw b % i))

-- the number that the generator comes to by the draws of a rule
abbrev pub after_rule : ℕ → ℕ
after_rule x =
    let a = next x in
    let b = next a in
    cond (is_even (draw a)) (next b) b

-- the bytes of the rule that is chosen
abbrev pub bytes_from : ℕ → ℕ → List ℕ
bytes_from i x = written_rule (drawn_rule (choice_from i x))

-- bytes copied to a place, as `copy_at` leaves them
abbrev pub Copied : List ℕ → ℕ → List ℕ → List ℕ → Type 0
Copied bytes at exit entry = exit ≡ take at entry ++ (bytes ++ drop (at + length bytes) entry)

-- rule i was drawn from the number x and copied to a place; y is the number after it, and end is where it ends
pub record Drawn (x i at y end : ℕ) (exit entry : List ℕ) : Type 0 where
  pub number : y ≡ after_rule x
  pub ends : end ≡ at + length (bytes_from i x)
  pub copied : Copied (bytes_from i x) at exit entry
