-- `places::place::in_slots` meets its contract. The invariant: the position falls where what is left of it falls in the slots from j on.
use mathlib.Core.Path.{◌≡◌}
use Rattle.terms.specs.FormBytes.{slot_of}
use Rattle.places.specs.Position.{place_in}
use Rattle.counting.specs.Private.Counts.{own_in, slots_from}
use Rattle.places.proofs.place.in_slots.Given as goal

abbrev pub invariant-loop-j : goal.invariant-loop-j
invariant-loop-j l =
    let slot = slot_of l.counted.table.bytes.now l.rule.0 in
    let own = own_in l.counted.counts.now in
    place_in own (slots_from slot l.from l.to) l.position ≡ place_in own (slots_from slot l.j l.to) l.left
