-- Refusals by number (document 01, "Refusals with a sheet for each", and document 02), and 0 where nothing is refused.
use Rattle.std.specs.Prelude.{Bool, true, false, ◌||◌, List, [], ◌∷◌, ℕ, zero, suc, ltb}

infix 70 ◌when◌
-- a row of the table: the number n where the test holds (01 Refusals)
abbrev pub ◌when◌ : ℕ → Bool → ℕ
n when true = n
n when false = 0

-- a refusal, or what comes after it where there is none (01 Refusals)
abbrev pub or_else : ℕ → ℕ → ℕ
or_else zero m = m
or_else (suc n) m = suc n

-- the first row that holds (01 Refusals)
abbrev pub first : List ℕ → ℕ
first [] = 0
first (n ∷ ns) = or_else n (first ns)

-- the number n is below low or above high (01 Refusals)
abbrev pub outside : ℕ → ℕ → ℕ → Bool
outside low high n = ltb n low || ltb high n
