use mathlib.Core.Path.{ap, sym, ◌∙◌}
use borrow.Author.Rules.{rules}
use Rattle.terms.specs.Grammar.{terminal_rank}
use Rattle.transitions.proofs.Walking.{starts, goes_on}
use Rattle.transitions.proofs.step.walk.Goals as goal

pub loop-i-init : goal.loop-i-init
loop-i-init c =
    let (linked, terminal, first) = c.transitions_of-i-items.ensures in
    let is = c.into_iter-i-iterator.ensures.into_iter_gives in
    record {
      can_next = search rules;
      ends = search rules;
      same = rw is linked;
      terminal = rw is terminal;
      found = rw is (starts _ c.args.sets.now c.args.terminal.0 c.args.hole _ first);
    }

pub pair_of-pairs-requires : goal.pair_of-pairs-requires
pair_of-pairs-requires c =
    let (linked, terminal, (at, below, first)) = c.in-Some.ensures.steps in
    let i = c.loop-i.invariant in
    let there = rw i.same at below in
    rw at (there, c.requires ∙ ap (terminal_rank c.args.linked.now.alphabet.now) (sym (i.found.here there)))

pub loop-i-preserved : goal.loop-i-preserved
loop-i-preserved c =
    let (linked, terminal, (at, below, first)) = c.in-Some.ensures.steps in
    let i = c.loop-i.invariant in
    let there = rw i.same at below in
    let pair = rw at at c.pair_of-pairs.ensures in
    record {
      can_next = search rules;
      ends = search rules;
      same = rw linked i.same;
      terminal = terminal ∙ i.terminal;
      found = goes_on _ c.args.sets.now c.args.terminal.0 c.args.hole c.loop-i.pairs c.pair_of-pairs.result c.loop-i.i-iterator.next _ i.found (i.found.here there) pair
          (rw (i.same, i.terminal) at first);
    }

pub returns : goal.returns
returns c =
    let (linked, terminal, end) = c.in-None.ensures.steps in
    let i = c.loop-i.invariant in
    rw (end, i.same) at i.found.found
