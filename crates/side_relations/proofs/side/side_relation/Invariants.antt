-- `side_relations::side::side_relation` meets its contract. The invariant: in each lane, the stack has the sets that a scan of the nodes passed finds, the last ones.
use Rattle.side_relations.specs.Side.{SideReady}
use Rattle.side_relations.proofs.Scanning.{Scanning}
use Rattle.side_relations.proofs.side.side_relation.Given as goal

abbrev pub invariant-loop-left : goal.invariant-loop-left
invariant-loop-left l =
    (g : SideReady l.linked.alphabet.now l.linked.automaton.now l.lower.tables.now l.lower.ranks.now l.lower.present.now l.nodes l.choice l.lanes) → Scanning g l.left l.low l.stack
