-- `rule_tables::rules::write_tables` meets its contract. The invariant: the rules before the present one have their tables, and later bytes are kept.
use Rattle.rule_tables.specs.Rules.{RulesReady}
use Rattle.rule_tables.proofs.Tabling.{Tabling}
use Rattle.rule_tables.proofs.rules.write_tables.Given as goal

abbrev pub invariant-loop-number : goal.invariant-loop-number
invariant-loop-number l = (g : RulesReady l.alphabet l.automaton l.body l.initial.tables) → Tabling g l.number-iterator.iter.body.now l.number-iterator.count l.tables
