use mathlib.Core.Path.{◌≡◌, refl}
use Prim.Native.Nat.{◌+◌, ◌-◌, ◌≤◌}
use native.Mathlib.Omega.{arith}
use lib.ListN.{length}
use Rattle.terms.specs.Check.{most_nodes, highest_rank}
use Rattle.side_relations.proofs.Scanning.{scan-none, node-ranked, room, rank-read, ready_as, scan_more_as, scan-all, node_part}
use Rattle.side_relations.proofs.side.side_relation.Goals as goal

pub loop-left-init : goal.loop-left-init
loop-left-init c = λ g. scan-none g refl refl refl

pub name_rank-requires : goal.name_rank-requires
name_rank-requires c =
    let g = c.requires in
    rw c.name_of-name.ensures (node-ranked g (c.loop-left.left - 1) (omega arith) (c.loop-left.invariant g))

pub slice_bounds-node-end : goal.slice_bounds-node-end
slice_bounds-node-end c =
    let stacked : (length c.loop-left.stack ≡ most_nodes) × (c.loop-left.low ≤ most_nodes) = (let s = c.loop-left.invariant c.requires in (s.long, s.deep)) in
    let fits : let low = c.loop-left.low in (c.name_rank.result ≤ highest_rank) × (1 ≤ low) × (low + c.name_rank.result ≤ most_nodes) = (let g = c.requires in
    let left = c.loop-left.left - 1 in
    let s = c.loop-left.invariant g in
    omega (arith, rank-read g left (omega arith) s c.name_of-name.ensures c.name_rank.ensures, room g left (omega arith) s)) in
    omega (arith, fits, stacked)

pub node-relation-requires : goal.node-relation-requires
node-relation-requires c =
    let g = c.requires in
    ready_as g (c.loop-left.left - 1) (omega arith) (c.loop-left.invariant g) c.name_of-name.ensures c.name_rank.ensures _
    (node_part c.loop-left.stack c.loop-left.low c.name_rank.result)

pub loop-left-preserved : goal.loop-left-preserved
loop-left-preserved c = λ g.
    (scan_more_as g (c.loop-left.left - 1) (omega arith) (c.loop-left.invariant g) c.name_of-name.ensures c.name_rank.ensures _
    (node_part c.loop-left.stack c.loop-left.low c.name_rank.result) _ c.node-relation.ensures _ refl)

pub returns : goal.returns
returns c = λ g. (scan-all g (omega arith) (c.loop-left.invariant g)).1
