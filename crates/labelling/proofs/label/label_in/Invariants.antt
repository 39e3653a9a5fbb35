-- `labelling::label::label_in` meets its contract. The invariant: the symbol at the place is the one that is asked for. The rule's number falls.
use mathlib.Core.Path.{◌≡◌}
use Rattle.places.specs.Position.{symbol_at, Position}
use Rattle.labelling.proofs.label.label_in.Given as goal

abbrev pub invariant-loop-terminal : goal.invariant-loop-terminal
invariant-loop-terminal l =
    let table = l.counted.table in
    Position table.alphabet.now table.bytes.now l.at.rule.0 l.at.position
    × (symbol_at table.alphabet.now table.bytes.now l.at.rule.0 l.at.position ≡ symbol_at table.alphabet.now table.bytes.now l.initial.at.rule.0 l.initial.at.position)

abbrev pub decreases-loop-terminal : goal.decreases-loop-terminal
decreases-loop-terminal l = l.at.rule.0
