-- `right_sides::side::right_side` meets its contract. The invariant: the cells on the stack represent the model's stack after the nodes passed, the last ones.
use Rattle.right_sides.specs.Side.{RightSide}
use Rattle.right_sides.proofs.Scanning.{Scanning}
use Rattle.right_sides.proofs.side.right_side.Given as goal

abbrev pub invariant-loop-i : goal.invariant-loop-i
invariant-loop-i l = (g : RightSide l.initial.builder l.alphabet l.ranks l.roots l.nodes) → Scanning g l.i l.low l.builder l.stack
