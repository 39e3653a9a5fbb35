use mathlib.Core.Path.{◌≡◌, sym, ◌∙◌, ap}
use Prim.Native.Nat.{ℕ, ◌+◌, ◌-◌, ◌≤◌, ◌<◌}
use native.Mathlib.Omega.{arith}
use borrow.Author.Tests.{lt-ltb, le-ltb}
use Rattle.terms.specs.FormBytes.{slot_of}
use Rattle.places.specs.Position.{place_in}
use Rattle.counting.specs.Private.Counts.{own_in, slots_from}
use Rattle.counting.proofs.Slots.{slots-none, slots-more}
use Rattle.places.proofs.place.in_slots.Goals as goal
use Rattle.places.proofs.place.in_slots.Goals.{After-own_of-nodes}

-- position p of the slots from j on, by the nodes of slot j
module _ (own slot : ℕ → ℕ) (j to p : ℕ) where
  falls-here : j < to → p < own (slot j) → place_in own (slots_from slot j to) p ≡ (slot j, p)
  falls-here h k = rw (slots-more slot j to h, lt-ltb p (own (slot j)) k)

  falls-behind : j < to → own (slot j) ≤ p → place_in own (slots_from slot j to) p ≡ place_in own (slots_from slot (j + 1) to) (p - own (slot j))
  falls-behind h k = rw (slots-more slot j to h, le-ltb p (own (slot j)) k)

  falls-nowhere : to ≤ j → place_in own (slots_from slot j to) p ≡ (0, p)
  falls-nowhere h = rw (slots-none slot j to h)

-- the nodes of slot j
nodes_are : (c : After-own_of-nodes) → c.own_of-nodes.result ≡ own_in c.args.counted.now.counts.now (slot_of c.args.counted.now.table.bytes.now c.args.rule.0 c.loop-j.j)
nodes_are c = c.own_of-nodes.ensures ∙ ap (own_in c.args.counted.now.counts.now) c.slot_of-slot.ensures

pub returns-then-left-nodes : goal.returns-then-left-nodes
returns-then-left-nodes c =
    let a = c.args in
    let own = own_in a.counted.now.counts.now in
    let slot = slot_of a.counted.now.table.bytes.now a.rule.0 in
    let nodes = nodes_are (goal.at.returns-then-left-nodes c).After-own_of-nodes in
    rw c.slot_of-slot.ensures (sym (c.loop-j.invariant ∙ falls-here own slot c.loop-j.j a.to c.loop-j.left (omega arith) (omega arith)))

pub loop-j-preserved : goal.loop-j-preserved
loop-j-preserved c =
    let a = c.args in
    let own = own_in a.counted.now.counts.now in
    let slot = slot_of a.counted.now.table.bytes.now a.rule.0 in
    let nodes = nodes_are (goal.at.loop-j-preserved c).After-own_of-nodes in
    c.loop-j.invariant
    ∙ falls-behind own slot c.loop-j.j a.to c.loop-j.left (omega arith) (omega arith)
    ∙ ap (λ n. place_in own (slots_from slot (c.loop-j.j + 1) a.to) (c.loop-j.left - n)) (sym nodes)

pub returns : goal.returns
returns c =
    let a = c.args in
    sym (c.loop-j.invariant ∙ falls-nowhere (own_in a.counted.now.counts.now) (slot_of a.counted.now.table.bytes.now a.rule.0) c.loop-j.j a.to c.loop-j.left (omega arith))
