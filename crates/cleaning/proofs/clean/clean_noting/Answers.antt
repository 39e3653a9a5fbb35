use mathlib.Core.Path.{refl}
use borrow.Author.Rules.{rules}
use mathlib.Core.Logic.{inl}
use Prim.Native.Nat.{◌≤◌}
use lib.ListN.{length}
use native.Mathlib.Omega.{arith}
use Rattle.cleaning.specs.Clean.{longest_body, GrammarBody}
use Rattle.grammars.proofs.Turns.{Turn, turn}
use Rattle.cleaning.proofs.Parts.{part_long}
use Rattle.cleaning.proofs.Cleaning.{Cleaning, none-cleaned, room-there, part_ready, rule-cleaned, short-body, few-left, all-cleaned}
use Rattle.cleaning.proofs.clean.clean_noting.Goals as goal
use Rattle.cleaning.proofs.clean.clean_noting.Goals.{In-Some}

module _ (c : In-Some) (g : GrammarBody c.args.alphabet.now c.args.body.now) (enough : longest_body ≤ length c.args.cleaned.now) where
  -- the rules before the present one are cleaned
  before : Cleaning g enough c.loop-number.number-iterator.iter.body.now c.loop-number.to c.in-Some.number c.loop-number.notes c.loop-number.cleaned
  before = rw c.in-Some.ensures.steps.1 (c.loop-number.invariant g enough)

  -- the present rule is the first of those that are left
  present : Turn c.args.body.now c.in-Some.number c.loop-number.number-iterator.iter.body.now (record { rank = c.in-Some.rule.rank; nodes = c.in-Some.rule.nodes.now }) c.next.new.self.iter.body.now
  present = turn before.read c.in-Some.ensures.steps.0

pub loop-number-init : goal.loop-number-init
loop-number-init c =
    λ g enough. rw (c.into_iter-number-iterator.ensures.into_iter_gives, c.enumerate-number-items.ensures.source, c.enumerate-number-items.ensures.count) (none-cleaned g enough (omega arith) (omega arith) (omega arith) refl)

pub next-requires : goal.next-requires
next-requires c = (tt, tt, inl (omega (arith, few-left c.requires.0 c.requires.1 (c.loop-number.invariant c.requires.0 c.requires.1))))

pub slice_bounds-clean_rule-count : goal.slice_bounds-clean_rule-count
slice_bounds-clean_rule-count c =
    let d = (goal.at.slice_bounds-clean_rule-count c).In-Some in
    room-there c.requires.0 c.requires.1 (before d c.requires.0 c.requires.1) (present d c.requires.0 c.requires.1)

pub slice_bounds-clean_rule-start : goal.slice_bounds-clean_rule-start
slice_bounds-clean_rule-start c =
    let d = (goal.at.slice_bounds-clean_rule-start c).In-Some in
    let room = room-there c.requires.0 c.requires.1 (before d c.requires.0 c.requires.1) (present d c.requires.0 c.requires.1) in
    omega arith

pub clean_rule-to-requires : goal.clean_rule-to-requires
clean_rule-to-requires c =
    let d = (goal.at.clean_rule-to-requires c).In-Some in
    part_ready c.requires.0 c.requires.1 (before d c.requires.0 c.requires.1) (present d c.requires.0 c.requires.1) _ (part_long c.loop-number.to c.loop-number.cleaned)

pub overflow_add-to : goal.overflow_add-to
overflow_add-to c =
    let d = (goal.at.overflow_add-to c).In-Some in
    let next = rule-cleaned c.requires.0 c.requires.1 (before d c.requires.0 c.requires.1) (present d c.requires.0 c.requires.1) (part_long c.loop-number.to c.loop-number.cleaned) c.clean_rule-to.ensures in
    omega (arith, short-body c.requires.0 c.requires.1 next)

pub loop-number-preserved : goal.loop-number-preserved
loop-number-preserved c =
    λ g enough.
    let d = (goal.at.loop-number-preserved c).In-Some in
    rw (d.in-Some.ensures.steps.2, ← d.in-Some.ensures.steps.1)
    (rule-cleaned g enough (before d g enough) (present d g enough) (part_long c.loop-number.to c.loop-number.cleaned) c.clean_rule-to.ensures)

pub returns : goal.returns
returns c = all-cleaned c.requires.0 c.requires.1 (c.loop-number.invariant c.requires.0 c.requires.1) (search rules)
