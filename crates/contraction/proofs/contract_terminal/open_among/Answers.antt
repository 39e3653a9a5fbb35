use Rattle.std.proofs.Common.{◌-◌, arith}
use Rattle.contraction.proofs.OpenChildren.{sorted_none, sorted-turn}
use Rattle.contraction.proofs.contract_terminal.open_among.Goals as goal

pub loop-j-init : goal.loop-j-init
loop-j-init c = sorted_none _ _

pub loop-j-preserved : goal.loop-j-preserved
loop-j-preserved c =
    sorted-turn _ _ (c.loop-j.j - 1) c.loop-j.j _ _ (omega arith) c.loop-j.auto.j c.loop-j.invariant
    (rw (c.is_closed-closed.ensures, c.cell.ensures) at c.with_child-open.ensures)
