use mathlib.Core.Path.{ap, sym, ◌∙◌}
use native.Mathlib.Omega.{arith}
use borrow.Author.Rules.{rules}
use lib.ListN.{length}
use Rattle.terms.specs.Grammar.{terminal_rank}
use Rattle.transitions.proofs.Walking.{starts, goes_on}
use Rattle.blackboard_terms.specs.Step.{lane, lanes_at}
use Rattle.lane_steps.proofs.Lanes.{lane-none, lane_or}
use Rattle.lane_steps.proofs.step.walk.Goals as goal

pub loop-i-init : goal.loop-i-init
loop-i-init c =
    let (linked, terminal, first) = c.transitions_of-i-items.ensures in
    let is = c.into_iter-i-iterator.ensures.into_iter_gives in
    record {
      can_next = search rules;
      ends = search rules;
      same = rw is linked;
      terminal = rw is terminal;
      found = λ p hp. rw (is, lane-none p) (starts _ (lanes_at p c.args.children.now) c.args.terminal.0 (length c.args.children.now) _ first);
    }

pub targets_of-targets-requires : goal.targets_of-targets-requires
targets_of-targets-requires c =
    let (linked, terminal, (at, below, first)) = c.in-Some.ensures.steps in
    let i = c.loop-i.invariant in
    let there = rw i.same at below in
    rw at (there, c.requires ∙ ap (terminal_rank c.args.linked.now.alphabet.now) (sym ((i.found 0 (omega arith)).here there)))

pub loop-i-preserved : goal.loop-i-preserved
loop-i-preserved c =
    let (linked, terminal, (at, below, first)) = c.in-Some.ensures.steps in
    let i = c.loop-i.invariant in
    let l = c.loop-i in
    let there = rw i.same at below in
    let targets = c.targets_of-targets.result in
    record {
      can_next = search rules;
      ends = search rules;
      same = rw linked i.same;
      terminal = terminal ∙ i.terminal;
      found = λ p hp.
          rw (lane_or targets l.targets p)
          (goes_on _ (lanes_at p c.args.children.now) c.args.terminal.0 (length c.args.children.now) (lane l.targets p) (lane targets p) l.i-iterator.next _
          (i.found p hp) ((i.found p hp).here there) (rw at at (c.targets_of-targets.ensures p hp)) (rw (i.same, i.terminal) at first));
    }

pub returns : goal.returns
returns c p hp =
    let (linked, terminal, end) = c.in-None.ensures.steps in
    let i = c.loop-i.invariant in
    rw (end, i.same) at (i.found p hp).found
