-- Marking for a candidate with the tally as a list of counts, of which the first 48 are the tally's (document 02, R-1).
use Rattle.std.specs.Prelude.{cond, List, ℕ, ltb, length}
use Rattle.terms.specs.Refusal.{◌when◌, or_else}
use Rattle.terms.specs.Sheet.{Verdict, accepted, declined}
use Rattle.terms.specs.Calls.{marking_refusal}
use Rattle.tallies.specs.Counts.{counted}
use Rattle.tallies.specs.Lists.{marking}

-- a verdict as a number: 1 accepted, 0 declined (01 Derived tree and run)
abbrev pub verdict_number : Verdict → ℕ
verdict_number accepted = 1
verdict_number declined = 0

-- marking with a list of counts: 19 where it is shorter than 48, else as marking refuses (02 R-1)
unfoldable pub mark_refusal : List ℕ → ℕ → List ℕ → ℕ → ℕ → ℕ
mark_refusal tally c sheet room numbers = or_else (19 when (ltb (length tally) 48)) (marking_refusal tally c sheet room numbers)

-- the list of counts after marking: as it was where it is too short, else one count of the candidate moves on or none (02 R-1)
unfoldable pub tally_left : List ℕ → ℕ → List ℕ → ℕ → ℕ → List ℕ
tally_left tally c sheet room numbers = cond (ltb (length tally) 48) tally (counted c (marking tally c sheet room numbers) tally)
