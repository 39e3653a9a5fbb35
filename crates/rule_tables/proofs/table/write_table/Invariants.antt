-- `rule_tables::table::write_table` meets its contract. The invariant: the bytes of the choices passed are written, and the rest is clear.
use Rattle.rule_tables.specs.Table.{TableReady}
use Rattle.rule_tables.proofs.Filling.{Filling}
use Rattle.rule_tables.proofs.table.write_table.Given as goal

abbrev pub invariant-loop-choice : goal.invariant-loop-choice
invariant-loop-choice l =
    (g : TableReady l.linked.alphabet.now l.linked.automaton.now l.fn.tables l.ranks l.present l.nodes l.number) → Filling g l.choice l.tables
