-- `redoing::redo::redo_relations` meets its contract. The invariant: the rules below the present one are done.
use Rattle.redoing.proofs.Passing.{Passing}
use Rattle.redoing.proofs.redo.redo_relations.Given as goal

abbrev pub invariant-loop-number : goal.invariant-loop-number
invariant-loop-number l =
    Passing l.evaluator.table.alphabet.now l.evaluator.linked.automaton.now l.evaluator.table.bytes.now l.terminal.0 l.initial.relations l.number l.dependent l.relations
