use mathlib.Core.Path.{sym}
use native.Mathlib.Omega.{arith}
use Rattle.checks.proofs.tree.Seen.{seen_none, seen_all, no_terminal, lacks_child, takes_children}
use Rattle.checks.proofs.tree.is_tree.Goals as goal

pub loop-i-init : goal.loop-i-init
loop-i-init c = (omega arith, seen_none _ _)

pub returns-then-alphabet-terminal : goal.returns-then-alphabet-terminal
returns-then-alphabet-terminal c =
    sym (no_terminal _ _ _ _ c.loop-i.invariant.1 c.loop-i-test.true (omega arith) c.if-alphabet-terminal.true)

pub returns-then-trees-rank : goal.returns-then-trees-rank
returns-then-trees-rank c =
    sym (lacks_child _ _ _ _ c.loop-i.invariant.1 c.loop-i-test.true (omega arith) (rw c.rank_of-rank.ensures at c.if-trees-rank.true))

pub loop-i-preserved : goal.loop-i-preserved
loop-i-preserved c = (
  omega arith,
  rw c.rank_of-rank.ensures
      (takes_children _ _ _ _ c.loop-i.invariant.1 c.loop-i-test.true (omega arith) c.if-alphabet-terminal.false (rw c.rank_of-rank.ensures at c.if-trees-rank.false)),
)

pub returns : goal.returns
returns c = sym (seen_all _ _ _ _ c.loop-i.invariant.1 c.loop-i-test.false)
