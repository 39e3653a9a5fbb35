-- `places::place::in_chain` meets its contract: C stands at the open place of B.
use mathlib.Core.Path.{◌≡◌, ◌∙◌, ap}
use Rattle.terms.specs.FormBytes.{slot_of}
use Rattle.counting.specs.Private.Counts.{own_in, before_in}
use Rattle.places.proofs.Places.{outer_there, inner_there, lies_in_front, lies_in_inner, lies_behind}
use Rattle.places.proofs.place.in_chain.Goals as goal
use Rattle.places.proofs.place.in_chain.Goals.{After-own_of-own}

-- the count of B that is read
before-is : (c : After-own_of-own) → c.before_of-before.result ≡ before_in c.args.counted.now.counts.now (slot_of c.args.counted.now.table.bytes.now c.args.place.rule.0 0)
before-is c = c.before_of-before.ensures ∙ ap (before_in c.args.counted.now.counts.now) c.slot_of-outer.ensures

pub before_of-before-requires : goal.before_of-before-requires
before_of-before-requires c = rw c.slot_of-outer.ensures (outer_there c.args.counted.now.known c.requires.0 c.requires.1)

pub own_of-own-requires : goal.own_of-own-requires
own_of-own-requires c = rw c.slot_of-inner.ensures (inner_there c.args.counted.now.known c.requires.0 c.requires.1)

pub returns-then-position-before : goal.returns-then-position-before
returns-then-position-before c =
    let before = before-is (goal.at.returns-then-position-before c).After-own_of-own in
    rw c.slot_of-outer.ensures (lies_in_front c.args.counted.now.known c.requires.0 c.requires.1 (rw before at c.if-position-before.true))

pub returns-then-position-before-2 : goal.returns-then-position-before-2
returns-then-position-before-2 c =
    let here = (goal.at.returns-then-position-before-2 c).After-own_of-own in
    let own = c.own_of-own.ensures ∙ ap (own_in c.args.counted.now.counts.now) c.slot_of-inner.ensures in
    rw (c.slot_of-inner.ensures, before-is here)
    (lies_in_inner c.args.counted.now.known c.requires.0 c.requires.1 (rw (before-is here) at c.if-position-before.false) (rw (before-is here, own) at c.if-position-before-2.true))

pub returns : goal.returns
returns c =
    let here = (goal.at.returns c).After-own_of-own in
    let own = c.own_of-own.ensures ∙ ap (own_in c.args.counted.now.counts.now) c.slot_of-inner.ensures in
    rw (c.slot_of-outer.ensures, own)
    (lies_behind c.args.counted.now.known c.requires.0 c.requires.1 (rw (before-is here) at c.if-position-before.false) (rw (before-is here, own) at c.if-position-before-2.false))
