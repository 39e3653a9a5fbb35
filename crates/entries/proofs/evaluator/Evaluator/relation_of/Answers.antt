-- `entries::evaluator::Evaluator::relation_of` meets its contract: it goes by the kind of the rule, as the definition does.
use mathlib.Core.Path.{◌≡◌}
use Prim.Native.Nat.{◌≤◌}
use native.Mathlib.Omega.{arith}
use Rattle.entries.specs.Entries.{entry_in}
use Rattle.entries.proofs.OfRule.{whole_known, pierced_known, whole-entry, pierced-entry, filled-entry, composed-entry}
use Rattle.entries.proofs.evaluator.Evaluator.relation_of.Goals as goal

pub step_closed-requires : goal.step_closed-requires
step_closed-requires c =
    let it = c.args.self.now in
    let kind : c.rule_at-rule.result.kind ≡ 0 = rw c.rule_at-rule.ensures (grind (arith, c.kind_of.ensures, c.in-Whole.is)) in
    rw it.same_alphabet (whole_known it.linked.automaton.now it.table.valid _ c.requires _ c.rule_at-rule.ensures kind)

pub returns-in-Whole : goal.returns-in-Whole
returns-in-Whole c =
    let it = c.args.self.now in
    let kind : c.rule_at-rule.result.kind ≡ 0 = rw c.rule_at-rule.ensures (grind (arith, c.kind_of.ensures, c.in-Whole.is)) in
    rw (c.from.ensures, c.step_closed.ensures, c.slot_states-sets.ensures, it.same_alphabet)
    (whole-entry it.linked.automaton.now it.table.valid _ c.requires _ c.rule_at-rule.ensures (entry_in c.args.relations.now) kind)

pub overflow_sub-rule : goal.overflow_sub-rule
overflow_sub-rule c =
    let it = c.args.self.now in
    let kind : c.rule_at-rule.result.kind ≡ 1 = rw c.rule_at-rule.ensures (grind (arith, c.kind_of.ensures, c.in-Pierced.is)) in
    (pierced_known it.linked.automaton.now it.table.valid _ c.requires _ c.rule_at-rule.ensures kind).1

pub step_open-requires : goal.step_open-requires
step_open-requires c =
    let it = c.args.self.now in
    let kind : c.rule_at-rule.result.kind ≡ 1 = rw c.rule_at-rule.ensures (grind (arith, c.kind_of.ensures, c.in-Pierced.is)) in
    let (known, from, to) = pierced_known it.linked.automaton.now it.table.valid _ c.requires _ c.rule_at-rule.ensures kind in
    rw it.same_alphabet (known, omega (arith, from, to))

pub returns-in-Pierced : goal.returns-in-Pierced
returns-in-Pierced c =
    let it = c.args.self.now in
    let kind : c.rule_at-rule.result.kind ≡ 1 = rw c.rule_at-rule.ensures (grind (arith, c.kind_of.ensures, c.in-Pierced.is)) in
    rw (c.step_open.ensures, c.slot_states-sets-in-Pierced.ensures, it.same_alphabet)
    (pierced-entry it.linked.automaton.now it.table.valid _ c.requires _ c.rule_at-rule.ensures (entry_in c.args.relations.now) kind)

pub returns-in-Filled : goal.returns-in-Filled
returns-in-Filled c =
    let it = c.args.self.now in
    let kind : c.rule_at-rule.result.kind ≡ 2 = rw c.rule_at-rule.ensures (grind (arith, c.kind_of.ensures, c.in-Filled.is)) in
    rw (c.apply.ensures, c.entry_of-outer.ensures, c.entry_of-inner.ensures)
    (filled-entry it.linked.automaton.now it.table.valid _ c.requires _ c.rule_at-rule.ensures (entry_in c.args.relations.now) kind)

pub returns-in-Composed : goal.returns-in-Composed
returns-in-Composed c =
    let it = c.args.self.now in
    let kind : 3 ≤ c.rule_at-rule.result.kind = rw c.rule_at-rule.ensures (grind (arith, c.kind_of.ensures, c.in-Composed.is)) in
    rw (c.compose.ensures, c.entry_of-outer-in-Composed.ensures, c.entry_of-inner-in-Composed.ensures)
    (composed-entry it.linked.automaton.now it.table.valid _ c.requires _ c.rule_at-rule.ensures (entry_in c.args.relations.now) kind)
