-- `practice_rules::rules::write_rules` meets its contract. The loop's invariant: rule 0 and the rules below i are written, and the generator has come to the
-- number after i - 1 rules.
use Rattle.std.proofs.Common.{◌+◌, ◌-◌, ◌≤◌}
use Rattle.practice_rules.proofs.Reached.{Reached}
use Rattle.practice_rules.proofs.rules.write_rules.Given as goal

abbrev pub invariant-loop-i : goal.invariant-loop-i
invariant-loop-i l = record { in_range : l.i ≤ l.m + 1; reached : Reached l.first (l.i - 1) l.generator.x l.end l.rules }
