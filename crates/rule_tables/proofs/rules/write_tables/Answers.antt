use mathlib.Core.Logic.{inl}
use Rattle.std.proofs.Common.{refl, arith, rules}
use Rattle.grammars.proofs.Turns.{Turn, turn}
use Rattle.rule_tables.specs.Rules.{RulesReady}
use Rattle.rule_tables.proofs.Tabling.{Tabling, tabling_none, few-left, number-few, table_ready, tabling_more, tabling_all}
use Rattle.rule_tables.proofs.rules.write_tables.Goals as goal
use Rattle.rule_tables.proofs.rules.write_tables.Goals.{In-Some}

module _ (c : In-Some) (g : RulesReady c.args.alphabet.now c.args.automaton.now c.args.body.now c.args.tables.now) where
  -- the rules before the present one have their tables
  before : Tabling g c.loop-number.number-iterator.iter.body.now c.in-Some.number c.loop-number.tables
  before = rw c.in-Some.ensures.steps.1 (c.loop-number.invariant g)

  -- the present rule is the first of those that are left
  present : Turn c.args.body.now c.in-Some.number c.loop-number.number-iterator.iter.body.now (record { rank = c.in-Some.rule.rank; nodes = c.in-Some.rule.nodes.now }) c.next.new.self.iter.body.now
  present = turn before.read c.in-Some.ensures.steps.0

pub loop-number-init : goal.loop-number-init
loop-number-init c =
    λ g. rw (c.into_iter-number-iterator.ensures.into_iter_gives, c.enumerate-number-items.ensures.source, c.enumerate-number-items.ensures.count) (tabling_none g refl)

pub next-requires : goal.next-requires
next-requires c = (tt, tt, inl (omega (arith, few-left c.requires (c.loop-number.invariant c.requires))))

pub overflow_cast-number : goal.overflow_cast-number
overflow_cast-number c =
    let d = (goal.at.overflow_cast-number c).In-Some in
    omega (arith, number-few c.requires (before d c.requires) (present d c.requires))

pub write_table-requires : goal.write_table-requires
write_table-requires c =
    let d = (goal.at.write_table-requires c).In-Some in
    rw (c.new-linked.ensures.alphabet, c.new-linked.ensures.automaton)
    (table_ready c.requires (before d c.requires) (present d c.requires) c.clean_noting.ensures.noted)

pub loop-number-preserved : goal.loop-number-preserved
loop-number-preserved c = λ g.
    let d = (goal.at.loop-number-preserved c).In-Some in
    let written = rw (c.new-linked.ensures.alphabet, c.new-linked.ensures.automaton) at c.write_table.ensures in
    rw (d.in-Some.ensures.steps.2, ← d.in-Some.ensures.steps.1) (tabling_more g (before d g) (present d g) c.clean_noting.ensures.noted _ written)

pub returns : goal.returns
returns c = tabling_all c.requires (c.loop-number.invariant c.requires) (search rules)
