use mathlib.Core.Logic.{inl}
use Rattle.std.proofs.Common.{refl, ap, ◌∙◌, arith, rules}
use Rattle.grammars.proofs.Turns.{Turn, turn}
use Rattle.cells.specs.Cells.{slot_for}
use Rattle.right_sides.specs.Rules.{Grammar}
use Rattle.right_sides.proofs.Ruling.{Making, none_made, few-left, side, rule-made, start-lower, cells_fit, finished}
use Rattle.right_sides.proofs.rules.make_rules.Goals as goal
use Rattle.right_sides.proofs.rules.make_rules.Goals.{In-Some}

module _ (c : In-Some) (g : Grammar c.args.table.now c.args.alphabet.now c.args.body.now c.args.rules) where
  -- the rules before the present one are made
  before : Making g c.loop-i.i-iterator.iter.body.now c.in-Some.i c.new-builder.result c.loop-i.builder c.loop-i.ranks c.loop-i.roots
  before = rw c.in-Some.ensures.steps.1 (c.loop-i.invariant g)

  -- the present rule is the first of those that are left
  present : Turn c.args.body.now c.in-Some.i c.loop-i.i-iterator.iter.body.now (record { rank = c.in-Some.rule.rank; nodes = c.in-Some.rule.nodes.now }) c.next.new.self.iter.body.now
  present = turn before.read c.in-Some.ensures.steps.0

pub loop-i-init : goal.loop-i-init
loop-i-init c =
    λ g.
    rw (c.into_iter-i-iterator.ensures.into_iter_gives, c.enumerate-i-items.ensures.source, c.enumerate-i-items.ensures.count)
    (none_made g c.new-builder.ensures.begun c.new-builder.ensures.table refl refl)

pub next-requires : goal.next-requires
next-requires c = (tt, tt, inl (omega (arith, few-left c.requires (c.loop-i.invariant c.requires))))

pub right_side-requires : goal.right_side-requires
right_side-requires c =
    let d = (goal.at.right_side-requires c).In-Some in
    side c.requires (before d c.requires) (present d c.requires)

pub loop-i-preserved : goal.loop-i-preserved
loop-i-preserved c = λ g.
    let d = (goal.at.loop-i-preserved c).In-Some in
    rw d.in-Some.ensures.steps.2 (rule-made g (before d g) (present d g) c.right_side.ensures (rw d.in-Some.ensures.steps.1 refl))

pub cell-requires : goal.cell-requires
cell-requires c =
    let g = c.requires in
    let s = c.loop-i.invariant g in
    omega (arith, start-lower g s (search rules) _ refl, cells_fit g s (search rules))

pub returns : goal.returns
returns c =
    let g = c.requires in
    let s = c.loop-i.invariant g in
    let lent = s.lent in
    finished g s (search rules) refl (c.slot-start.ensures ∙ ap slot_for c.cell.ensures) (search rules)
