use Rattle.std.proofs.Common.{◌-◌, refl, arith}
use Rattle.right_sides.proofs.Scanning.{scan-none, node-ranked, children-fit, ready_as, scan_more_as, scan-all}
use Rattle.right_sides.proofs.side.right_side.Goals as goal

pub loop-i-init : goal.loop-i-init
loop-i-init c = λ g. scan-none g _ _ _ refl refl refl

pub name_rank-requires : goal.name_rank-requires
name_rank-requires c =
    let g = c.requires in
    rw c.name_of-name.ensures (node-ranked g (c.loop-i.i - 1) (omega arith) (c.loop-i.invariant g))

pub slice_bounds-children-end : goal.slice_bounds-children-end
slice_bounds-children-end c =
    let g = c.requires in
    children-fit g (c.loop-i.i - 1) (omega arith) (c.loop-i.invariant g) c.name_of-name.ensures c.name_rank.ensures

pub node-made-requires : goal.node-made-requires
node-made-requires c =
    let g = c.requires in
    ready_as g (c.loop-i.i - 1) (omega arith) (c.loop-i.invariant g) c.name_of-name.ensures c.name_rank.ensures _ refl

pub loop-i-preserved : goal.loop-i-preserved
loop-i-preserved c = λ g.
    (scan_more_as g (c.loop-i.i - 1) (omega arith) (c.loop-i.invariant g) c.name_of-name.ensures c.name_rank.ensures _ refl _ _ c.node-made.ensures _ refl)

pub returns : goal.returns
returns c =
    record { grown = λ g. (scan-all g (omega arith) (c.loop-i.invariant g)).1; stood = λ g. (scan-all g (omega arith) (c.loop-i.invariant g)).2 }
