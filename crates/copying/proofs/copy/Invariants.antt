-- `copying::copy` meets its contract. The invariant: the bytes before i are copied.
use Rattle.std.proofs.Common.{◌≡◌, ℕ, ◌<◌, length}
use lib.ListN.{get_or}
use Rattle.copying.proofs.copy.Given as goal

abbrev pub invariant-loop-i : goal.invariant-loop-i
invariant-loop-i l = (length l.to ≡ length l.from) × ((k : ℕ) → k < l.i → get_or l.to k 0 ≡ get_or l.from k 0)
