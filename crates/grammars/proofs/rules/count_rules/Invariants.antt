-- `grammars::rules::count_rules` meets its contract. The loop's invariant: what the whole body says is what the rules passed say, with what the bytes
-- from the place on say. The measure is what is left of the body.
use Prim.Native.Nat.{◌-◌}
use lib.ListN.{length}
use Rattle.grammars.proofs.Body.{Passed}
use Rattle.grammars.proofs.rules.count_rules.Given as goal

abbrev pub invariant-loop-at : goal.invariant-loop-at
invariant-loop-at l = Passed l.body l.at l.rules l.nodes

abbrev pub decreases-loop-at : goal.decreases-loop-at
decreases-loop-at l = length l.body - l.at
