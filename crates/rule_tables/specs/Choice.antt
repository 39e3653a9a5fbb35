-- The choices of states of a rule, in lanes for the state of the first parameter and numbers for those of the others.
use Rattle.std.specs.Prelude.{Bool, ◌&&◌, ℕ, zero, suc, ◌-◌, ◌/◌, ◌%◌, ◌^◌, ltb}

-- how many lanes a rule of rank n has, with Q states (02 R-7)
abbrev pub lanes_of : ℕ → ℕ → ℕ
lanes_of zero Q = 1
lanes_of (suc n) Q = Q

-- how many numbers have a digit to the base 8 for each parameter behind the first (02 R-7)
abbrev pub choices_of : ℕ → ℕ
choices_of n = 8 ^ (n - 1)

-- the three digits of d are below Q (02 R-7)
abbrev pub states_behind : ℕ → ℕ → Bool
states_behind Q d = ltb (d % 8) Q && (ltb (d / 8 % 8) Q && ltb (d / 64 % 8) Q)
