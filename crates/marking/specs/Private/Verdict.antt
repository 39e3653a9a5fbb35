-- The verdict of a mask.
use Rattle.std.specs.Prelude.{cond, ◌&&◌, ℕ}
use Rattle.terms.specs.Test.{some}
use Rattle.terms.specs.Automaton.{has}
use Rattle.terms.specs.Sheet.{Verdict, accepted, declined}

-- the verdict of a mask and a set of final states (01 Derived tree and run)
abbrev pub verdict_on : ℕ → ℕ → Verdict
verdict_on mask finals = cond (some 8 (λ q. has mask q && has finals q)) accepted declined
