-- `places::place::in_whole` meets its contract: behind the terminal come the slots.
use Rattle.counting.proofs.Readable.{whole_readable}
use Rattle.places.proofs.Places.{room, lies_in_whole}
use Rattle.places.proofs.place.in_whole.Goals as goal

pub in_slots-requires : goal.in_slots-requires
in_slots-requires c =
    let known = c.args.counted.now.known in
    let at = c.requires.0 in
    rw c.rank_of-rank.ensures (whole_readable _ _ known.valid _ at.rule _ (room known at) c.requires.1)

pub returns : goal.returns
returns c =
    lies_in_whole c.args.counted.now.known c.requires.0 c.requires.2 _ _ c.requires.1 (rw c.rank_of-rank.ensures at c.in_slots.ensures)
