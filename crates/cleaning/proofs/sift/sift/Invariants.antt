-- `cleaning::sift::sift` meets its contract. The invariant: what is written and what the definition keeps of the nodes left, by the flags left, are together all that it keeps.
use lib.ListN.{length}
use Rattle.cleaning.specs.Sifting.{Side}
use Rattle.cleaning.proofs.Sifting.{Sifting}
use Rattle.cleaning.proofs.sift.sift.Given as goal

abbrev pub invariant-loop-node : goal.invariant-loop-node
invariant-loop-node l = (g : Side l.alphabet l.notes l.nodes (length l.initial.kept)) → Sifting g l.node-index l.low l.count l.flags l.kept
