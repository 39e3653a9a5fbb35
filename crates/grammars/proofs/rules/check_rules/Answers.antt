use mathlib.Core.Path.{refl, ◌∙◌}
use mathlib.Core.Logic.{inl}
use native.Mathlib.Omega.{arith}
use borrow.Author.Rules.{rules}
use borrow.Author.Tests.{eq-eqb, ne_eqb}
use Rattle.std.proofs.lemmas.Result.{err_from_is_err_and}
use Rattle.grammars.proofs.Turns.{Turn, turn}
use Rattle.grammars.proofs.EachRule.{Checked, none_checked, few-left, few-nodes, rule_check, rule-refused, rule_checked, all_checked, all_asked}
use Rattle.grammars.proofs.rules.check_rules.Goals as goal
use Rattle.grammars.proofs.rules.check_rules.Goals.{In-Some}

module _ (c : In-Some) where
  -- the rules before the present one pass
  before : Checked c.args.alphabet.now c.args.body.now c.loop-number.ranks c.loop-number.asked c.loop-number.number-iterator.iter.body.now c.in-Some.number
  before = rw c.in-Some.ensures.steps.1 c.loop-number.invariant

  -- the present rule is the first of those that are left
  present : Turn c.args.body.now c.in-Some.number c.loop-number.number-iterator.iter.body.now (record { rank = c.in-Some.rule.rank; nodes = c.in-Some.rule.nodes.now }) c.next.new.self.iter.body.now
  present = turn before.read c.in-Some.ensures.steps.0

pub loop-number-init : goal.loop-number-init
loop-number-init c =
    rw (c.into_iter-number-iterator.ensures.into_iter_gives, c.enumerate-number-items.ensures.source, c.enumerate-number-items.ensures.count) (none_checked _ _ _ refl)

pub next-requires : goal.next-requires
next-requires c = (tt, tt, inl (omega (arith, few-left c.loop-number.invariant (omega (arith, c.requires.count)))))

pub check_rule-requires : goal.check_rule-requires
check_rule-requires c =
    let d = (goal.at.check_rule-requires c).In-Some in
    (omega (arith, (present d).inside, c.requires.count), few-nodes (before d) (present d) c.requires.few)

pub returns-in_err-asked : goal.returns-in_err-asked
returns-in_err-asked c =
    let d = (goal.at.returns-in_err-asked c).In-Some in
    let p = err_from_is_err_and c.from_residual.result c.from_residual.ensures.1 in
    rw (p.1, p.2) (rule-refused (before d) (present d) (c.in_err-asked.ensures.answer ∙ rule_check (before d) (present d) (omega (arith, c.requires.count))))

pub loop-number-preserved : goal.loop-number-preserved
loop-number-preserved c =
    let d = (goal.at.loop-number-preserved c).In-Some in
    let few = few-nodes (before d) (present d) c.requires.few in
    rw (d.in-Some.ensures.steps.2, ← d.in-Some.ensures.steps.1)
    (rule_checked (before d) (present d) (omega (arith, c.requires.count))
    (c.in_ok-asked.ensures.answer ∙ rule_check (before d) (present d) (omega (arith, c.requires.count))) (omega (arith, c.in_ok-asked.ensures.small)))

pub returns-then-ranks-rules-ne0 : goal.returns-then-ranks-rules-ne0
returns-then-ranks-rules-ne0 c = rw (all_checked c.loop-number.invariant c.requires.count.0 (omega (arith, c.requires.count)) (search rules), ne_eqb _ _ c.if-ranks-rules-ne0.true)

pub returns : goal.returns
returns c =
    rw (all_checked c.loop-number.invariant c.requires.count.0 (omega (arith, c.requires.count)) (search rules), eq-eqb _ _ c.if-ranks-rules-ne0.false)
    (all_asked c.loop-number.invariant c.requires.count.0 (omega (arith, c.requires.count)) (search rules))
