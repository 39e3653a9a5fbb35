-- `places::place::in_pierced` meets its contract: behind the terminal come the slots before the open place, then those behind it.
use native.Mathlib.Omega.{arith}
use Rattle.forms.proofs.Rules.{hole-within}
use Rattle.counting.proofs.Readable.{left_readable, right_readable}
use Rattle.places.proofs.Places.{room, lies_in_left, lies_in_right}
use Rattle.places.proofs.place.in_pierced.Goals as goal

pub overflow_sub-hole : goal.overflow_sub-hole
overflow_sub-hole c = omega (arith, (hole-within _ _ c.args.counted.now.known.valid _ c.requires.0.rule c.requires.1).0, c.hole_of-hole.ensures)

pub in_slots-requires : goal.in_slots-requires
in_slots-requires c =
    let known = c.args.counted.now.known in
    let at = c.requires.0 in
    rw c.hole_of-hole.ensures (left_readable _ _ known.valid _ at.rule _ (room known at) c.requires.1)

pub returns-then-place-before : goal.returns-then-place-before
returns-then-place-before c =
    lies_in_left c.args.counted.now.known c.requires.0 c.requires.2 _ _ c.requires.1
    (rw c.before_of-before.ensures at c.if-place-before.true)
    (rw c.hole_of-hole.ensures at c.in_slots.ensures)

pub in_slots-requires-2 : goal.in_slots-requires-2
in_slots-requires-2 c =
    let known = c.args.counted.now.known in
    let at = c.requires.0 in
    rw (c.hole_of-hole.ensures, c.rank_of-rank.ensures) (right_readable _ _ known.valid _ at.rule _ (room known at) c.requires.1)

pub returns : goal.returns
returns c =
    lies_in_right c.args.counted.now.known c.requires.0 c.requires.2 _ _ c.requires.1
    (rw c.before_of-before.ensures at c.if-place-before.false)
    (rw (c.hole_of-hole.ensures, c.rank_of-rank.ensures, c.before_of-before.ensures) at c.in_slots-2.ensures)
