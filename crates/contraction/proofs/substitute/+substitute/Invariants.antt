-- `contraction::substitute::substitute` meets its contract. A child's cell is lower than its parent's. The loop's invariant: the children passed, the last ones, are instances.
use Rattle.contraction.proofs.Children.{InstancedFrom}
use Rattle.contraction.proofs.substitute.+substitute.Given as goal

abbrev pub decreases-substitute : goal.decreases-substitute
decreases-substitute l = l.cell

abbrev pub invariant-loop-j : goal.invariant-loop-j
invariant-loop-j l = InstancedFrom l.initial.builder l.args l.cell l.rank l.initial.made l.j l.builder l.made
