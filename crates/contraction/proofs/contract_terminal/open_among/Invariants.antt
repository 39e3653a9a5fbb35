-- `contraction::contract_terminal::open_among` meets its contract: the invariant says which of the children passed, the last ones, are open.
use Rattle.contraction.proofs.OpenChildren.{SortedFrom}
use Rattle.contraction.proofs.contract_terminal.open_among.Given as goal

abbrev pub invariant-loop-j : goal.invariant-loop-j
invariant-loop-j l = SortedFrom l.builder.cells l.children l.j l.open
