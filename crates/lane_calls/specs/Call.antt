-- What a call reads of a table, parameter by parameter from the last one on (document 02, R-7).
use Rattle.std.specs.Prelude.{Bool, ◌&&◌, List, ℕ, zero, suc, ◌+◌, ◌*◌, get_or}
use Rattle.terms.specs.Test.{some}
use Rattle.terms.specs.Automaton.{has}

-- q is in a byte whose choice has state p at the first parameter, a state of its set at each of the next n, and the digits of d at those behind (02 R-7)
unfoldable pub reaches : List ℕ → List ℕ → ℕ → ℕ → ℕ → ℕ → Bool
reaches table sets zero d p q = has (get_or table (8 * d + p) 0) q
reaches table sets (suc n) d p q = some 8 (λ s. has (get_or sets (suc n) 0) s && reaches table sets n (8 * d + s) p q)
