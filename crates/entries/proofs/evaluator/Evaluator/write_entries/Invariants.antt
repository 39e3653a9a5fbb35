-- `entries::evaluator::Evaluator::write_entries` meets its contract. The invariant: writing what is left gives what writing all gives.
use mathlib.Core.Path.{◌≡◌}
use Prim.Native.Nat.{◌-◌, ◌≤◌}
use lib.ListN.{length}
use Rattle.entries.specs.Entries.{written_from}
use Rattle.entries.proofs.evaluator.Evaluator.write_entries.Given as goal

abbrev pub invariant-loop-number : goal.invariant-loop-number
invariant-loop-number l =
    (written_from l.self.table.alphabet.now l.self.linked.automaton.now l.self.table.bytes.now l.initial.number (l.end - l.initial.number) l.initial.relations
    ≡ written_from l.self.table.alphabet.now l.self.linked.automaton.now l.self.table.bytes.now l.number (l.end - l.number) l.relations)
    × (l.number ≤ l.end) × (length l.relations ≡ length l.initial.relations)
