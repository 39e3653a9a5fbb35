-- `tallies::tally::count_up` meets its contract: nothing is refused, so the count stands in the slice and is not the largest.
use native.Mathlib.Omega.{arith}
use Rattle.tallies.proofs.Steps.{free, place_below}
use Rattle.tallies.proofs.tally.count_up.Goals as goal

pub overflow_add-counts-2 : goal.overflow_add-counts-2
overflow_add-counts-2 c =
    let a = c.args in
    omega (arith, (free a.counts.now a.candidate c.requires.1).room c.place.result (rw c.place.ensures (place_below a.way)))
