use mathlib.Core.Path.{refl, sym, ◌∙◌}
use native.Mathlib.Omega.{arith}
use Rattle.cleaning.proofs.Sifting.{node-ranked, room-there, can_keep_as, can_stay_as, kept_as, dropped_as, all_sifted}
use Rattle.cleaning.proofs.sift.sift.Goals as goal
use Rattle.cleaning.proofs.sift.sift.Goals.{else-stays, then-stays}

pub name_rank-rank-requires : goal.name_rank-rank-requires
name_rank-rank-requires c = rw c.name_of-name.ensures (node-ranked c.requires (c.loop-node.invariant c.requires) c.loop-node-test.true)

pub bounds-flags-low : goal.bounds-flags-low
bounds-flags-low c = omega (arith, room-there c.requires (c.loop-node.invariant c.requires) c.loop-node-test.true c.name_of-name.ensures c.name_rank-rank.ensures)

pub overflow_sub-low-in-loop-node : goal.overflow_sub-low-in-loop-node
overflow_sub-low-in-loop-node c = omega (arith, room-there c.requires (c.loop-node.invariant c.requires) c.loop-node-test.true c.name_of-name.ensures c.name_rank-rank.ensures)

pub flag_children-requires : goal.flag_children-requires
flag_children-requires c = (
  omega (arith, room-there c.requires (c.loop-node.invariant c.requires) c.loop-node-test.true c.name_of-name.ensures c.name_rank-rank.ensures),
  can_keep_as c.requires (c.loop-node.invariant c.requires) c.loop-node-test.true c.name_of-name.ensures c.name_rank-rank.ensures,
)

pub stays-requires : goal.stays-requires
stays-requires c = can_stay_as c.requires (c.loop-node.invariant c.requires) c.loop-node-test.true c.name_of-name.ensures c.name_rank-rank.ensures

pub loop-node-preserved : goal.loop-node-preserved
loop-node-preserved c =
    λ g.
    let s = c.loop-node.invariant g in
    let test = c.loop-node-test.true in
    let called = c.name_of-name.ensures in
    let ranked = c.name_rank-rank.ensures in
    let flagged = c.flag_children.ensures in
    elim c.if-stays.branch [ then-stays w ↦ rw (w.kept-is, w.count-is) (kept_as g s test called ranked refl flagged (sym c.stays.ensures ∙ w.if-stays.true)) | else-stays w ↦ rw (w.kept-is, w.count-is) (dropped_as g s test called ranked refl flagged (sym c.stays.ensures ∙ w.if-stays.false)) ]

pub returns : goal.returns
returns c =
    let known = c.loop-node.invariant c.requires in
    record {
      long = known.long;
      kept = λ g. all_sifted g (c.loop-node.invariant g) c.loop-node-test.false;
      counted = omega (arith, known.few, known.within);
    }
