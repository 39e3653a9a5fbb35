-- The parts of a rule are lower rules, so three times its number falls, with one more for `write_rule`, which calls `write_slots` of the same rule, and two more
-- for `write_part`, which calls `write_rule` of it.
use Rattle.std.proofs.Common.{◌≡◌, ◌+◌, ◌*◌, ◌≤◌, length}
use Rattle.std.proofs.lemmas.List.Edits.{sets}
use Rattle.terms.specs.Form.{Slots}
use Rattle.terms.specs.FormBytes.{slot_of, table_rules}
use Rattle.counting.specs.Private.Counts.{slots_from}
use Rattle.writing.specs.Writing.{symbols_in, rule_written, RuleRoom}
use Rattle.writing.proofs.write.+write_part_write_rule_write_slots.Given as goal

abbrev pub decreases-write_part : goal.decreases-write_part
decreases-write_part l = 3 * l.rule.0 + 2

abbrev pub decreases-write_rule : goal.decreases-write_rule
decreases-write_rule l = 3 * l.rule.0 + 1

abbrev pub decreases-write_slots : goal.decreases-write_slots
decreases-write_slots l = 3 * l.rule.0

-- At B(C) and B(C(y)) the loop writes B with room for C and the gap, and goes on with C in that room: what was to be written into the tree at first is what is
-- left to be written now, and the rule's number only falls.
abbrev pub invariant-write_rule-loop-root : goal.invariant-write_rule-loop-root
invariant-write_rule-loop-root l =
    (l.lower.0 ≤ l.fn.rule.0)
    × RuleRoom l.counted.table.alphabet.now l.counted.table.bytes.now l.lower.0 l.place l.gap (length l.tree)
    × (rule_written l.counted.table.alphabet.now l.counted.table.bytes.now l.lower.0 l.tree l.place l.gap ≡ rule_written l.counted.table.alphabet.now l.counted.table.bytes.now l.fn.rule.0 l.initial.tree l.at l.gap)

abbrev pub decreases-write_rule-loop-root : goal.decreases-write_rule-loop-root
decreases-write_rule-loop-root l = l.lower.0

-- what was to be written into the tree at first is what is left to be written now
abbrev pub invariant-write_slots-loop-j : goal.invariant-write_slots-loop-j
invariant-write_slots-loop-j l =
    Slots (table_rules l.counted.table.alphabet.now l.counted.table.bytes.now) l.rule.0 (slots_from (slot_of l.counted.table.bytes.now l.rule.0) l.j l.to)
    × (l.end + length (symbols_in l.counted.table.alphabet.now l.counted.table.bytes.now l.rule.0 l.j l.to) ≡ l.at + length (symbols_in l.counted.table.alphabet.now l.counted.table.bytes.now l.rule.0 l.from l.to))
    × (sets l.tree l.end (symbols_in l.counted.table.alphabet.now l.counted.table.bytes.now l.rule.0 l.j l.to) ≡ sets l.initial.tree l.at (symbols_in l.counted.table.alphabet.now l.counted.table.bytes.now l.rule.0 l.from l.to))
