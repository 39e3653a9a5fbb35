-- `places::place::follow` meets its contract: f(A1..An) and f(A1..y..An) have their terminal at position 0, and any other position is in a lower rule.
use mathlib.Core.Path.{◌∙◌}
use native.Mathlib.Omega.{arith}
use Rattle.places.proofs.Places.{root_is}
use Rattle.places.proofs.place.follow.Goals as goal

pub returns-in-Whole : goal.returns-in-Whole
returns-in-Whole c =
    c.terminal_of.ensures ∙ root_is c.args.counted.now.known c.requires (grind (arith, c.kind_of.ensures, c.in-Whole.is)) c.if-place-eq0.true
