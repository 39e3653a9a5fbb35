-- `right_sides::rules::make_rules` meets its contract. The invariant: the table holds what the model makes of the rules before the present one, and their cells
-- represent the model's skeletons.
use Rattle.right_sides.specs.Rules.{Grammar}
use Rattle.right_sides.proofs.Ruling.{Making}
use Rattle.right_sides.proofs.rules.make_rules.Given as goal

abbrev pub invariant-loop-i : goal.invariant-loop-i
invariant-loop-i l = (g : Grammar l.fn.table l.alphabet l.body l.rules) → Making g l.i-iterator.iter.body.now l.i-iterator.count l.initial.builder l.builder l.ranks l.roots
