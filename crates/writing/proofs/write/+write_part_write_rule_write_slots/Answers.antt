-- `writing::write::write_part`, `write_rule` and `write_slots`, which call each other, meet their contracts.
use Rattle.std.proofs.Common.{rules, ◌≡◌, ℕ, ◌+◌, ◌<◌, length, refl, sym, ap, ◌∙◌, arith, length-set}
use native.Mathlib.Nat.{add-zero}
use denote.Enum.Bare.{same_true, same_false}
use Rattle.form_bytes.specs.declared.rule.Kind.{Kind}
use Rattle.form_bytes.specs.declared.rule.Kind.TheVariants as kinds
use Rattle.form_bytes.specs.contracts.rule.Kind.{the_type}
use Rattle.form_bytes.specs.Fields.{kind_number}
use Rattle.counting.specs.Private.Symbols.{symbols_before, symbols_after}
use Rattle.terms.specs.FormBytes.{slot_of}
use Rattle.writing.specs.Writing.{value_in}
use Rattle.counting.proofs.Slots.{slots-none}
use Rattle.writing.proofs.write.Exact.{own-exact, before-exact}
use Rattle.writing.proofs.write.Single.{single-some, single-written}
use Rattle.writing.proofs.write.ByKind.{Chain, Whole, Pierced, chain, whole-node, pierced-node, node-some, chain-written, whole-written, pierced-written}
use Rattle.writing.proofs.write.Slots.{SlotStep, slot_step, slot_written}
use Rattle.writing.proofs.write.+write_part_write_rule_write_slots.Goals as goal
use Rattle.writing.proofs.write.+write_part_write_rule_write_slots.Goals.{write_part-After-own_of, write_rule-After-slot_of-inner, write_rule-After-own_of, write_rule-After-before_of, write_rule-Then-eq, write_rule-After-hole_of-hole, write_slots-After-slot_of-slot, write_slots-After-own_of}

-- `write_part`: a single node is its terminal, and other rules are written by `write_rule`.

pub write_part-own_of-requires : goal.write_part-own_of-requires
write_part-own_of-requires t c = c.requires.below

-- a rule whose count is 1 has one symbol of its own
one : {t : ℕ} (c : write_part-After-own_of t) → c.own_of.result ≡ 1
    → let value = value_in c.args.counted.now.table.alphabet.now c.args.counted.now.table.bytes.now c.args.rule.0 in length (symbols_before value) + length (symbols_after value) ≡ 1
one c counted =
    let known = c.args.counted.now.known in
    let room = c.requires in
    sym (own-exact known _ room.below (omega (arith, room.fits))) ∙ sym c.own_of.ensures ∙ counted

pub write_part-bounds-tree-at : goal.write_part-bounds-tree-at
write_part-bounds-tree-at t c =
    let known = c.args.counted.now.known in
    let room = c.requires in
    let single = one (goal.at.write_part-bounds-tree-at t c).After-own_of c.if-own_of-eq1.true in
    omega (arith, room.fits, single-some known _ room.below single)

pub write_part-returns-then-own_of-eq1 : goal.write_part-returns-then-own_of-eq1
write_part-returns-then-own_of-eq1 t c =
    let known = c.args.counted.now.known in
    let room = c.requires in
    let single = one (goal.at.write_part-returns-then-own_of-eq1 t c).After-own_of c.if-own_of-eq1.true in
    rw c.terminal_of.ensures (single-written known _ room.below single _ _ _)

pub write_part-write_rule-requires : goal.write_part-write_rule-requires
write_part-write_rule-requires t c = (omega arith, c.requires)

-- `write_rule` at B(C) and B(C(y)): it writes B with room for C and the gap, and goes on with C in that room.

pub write_rule-loop-root-init : goal.write_rule-loop-root-init
write_rule-loop-root-init t c = (omega arith, c.requires, refl)

-- the rule of a turn stands in the table
pub write_rule-kind_of-requires : goal.write_rule-kind_of-requires
write_rule-kind_of-requires t c = c.loop-root.invariant.1.below

-- B and C of a rule of kind 2 or 3
chain-known : {t : ℕ} (c : write_rule-After-slot_of-inner t) → Chain c.args.counted.now.table.alphabet.now c.args.counted.now.table.bytes.now c.loop-root.lower.0 c.slot_of-root.result.0 c.slot_of-inner.result.0
chain-known c =
    chain _ _ _ _ c.args.counted.now.known c.loop-root.invariant.1.below c.slot_of-root.ensures c.slot_of-inner.ensures (grind (arith, c.kind_of.ensures, c.is_chain.ensures, c.loop-root-test.true))

pub write_rule-own_of-requires : goal.write_rule-own_of-requires
write_rule-own_of-requires t c =
    let both = chain-known (goal.at.write_rule-own_of-requires t c).After-slot_of-inner in
    (omega (arith, both.inner.below, c.loop-root.invariant.1.below))

-- the count of C's own symbols
inner_own : {t : ℕ} (c : write_rule-After-own_of t) → let value = value_in c.args.counted.now.table.alphabet.now c.args.counted.now.table.bytes.now c.slot_of-inner.result.0 in
    c.own_of.result ≡ length (symbols_before value) + length (symbols_after value)
inner_own {t} c =
    let room = c.loop-root.invariant.1 in
    let both = chain-known (goal.at.write_rule-overflow_add-room t c).After-slot_of-inner in
    c.own_of.ensures ∙ own-exact c.args.counted.now.known _ (omega (arith, both.inner.below, room.below)) (omega (arith, both.long, room.fits))

pub write_rule-overflow_add-room : goal.write_rule-overflow_add-room
write_rule-overflow_add-room t c =
    let both = chain-known (goal.at.write_rule-overflow_add-room t c).After-slot_of-inner in
    omega (arith, inner_own c, both.long, c.loop-root.invariant.1.fits)

pub write_rule-write_part-requires : goal.write_rule-write_part-requires
write_rule-write_part-requires t c =
    let at = goal.at.write_rule-write_part-requires t c in
    let (low, room, left) = c.loop-root.invariant in
    let both = chain-known at.After-slot_of-inner in (
      omega (arith, both.root.below),
      record {
        below = omega (arith, both.root.below, room.below);
        shut = λ e. absurd (omega (arith, both.root.rank));
        fits = omega (arith, inner_own at.After-own_of, both.long, room.fits);
      },
    )

pub write_rule-before_of-requires : goal.write_rule-before_of-requires
write_rule-before_of-requires t c =
    let both = chain-known (goal.at.write_rule-before_of-requires t c).After-slot_of-inner in
    (omega (arith, both.root.below, c.loop-root.invariant.1.below))

-- the count of the symbols before B's open place
root_before : {t : ℕ} (c : write_rule-After-before_of t) → c.before_of.result ≡ length (symbols_before (value_in c.args.counted.now.table.alphabet.now c.args.counted.now.table.bytes.now c.slot_of-root.result.0))
root_before {t} c =
    let room = c.loop-root.invariant.1 in
    let both = chain-known (goal.at.write_rule-overflow_add-place t c).After-slot_of-inner in
    c.before_of.ensures ∙ before-exact c.args.counted.now.known _ _ room.below both.root (omega (arith, both.long, room.fits))

pub write_rule-overflow_add-place : goal.write_rule-overflow_add-place
write_rule-overflow_add-place t c =
    let both = chain-known (goal.at.write_rule-overflow_add-place t c).After-slot_of-inner in
    omega (arith, root_before c, both.long, c.loop-root.invariant.1.fits)

pub write_rule-loop-root-smaller : goal.write_rule-loop-root-smaller
write_rule-loop-root-smaller t c = (chain-known (goal.at.write_rule-loop-root-smaller t c).After-slot_of-inner).inner.below

pub write_rule-loop-root-preserved : goal.write_rule-loop-root-preserved
write_rule-loop-root-preserved t c =
    let at = goal.at.write_rule-loop-root-preserved t c in
    let both = chain-known at.After-slot_of-inner in
    let (low, room, left) = c.loop-root.invariant in
    let first = root_before c in
    let own = inner_own at.After-own_of in (
      omega (arith, both.inner.below),
      record {
        below = omega (arith, both.inner.below, room.below);
        shut = λ e. room.shut (sym both.inner.rank ∙ e);
        fits = omega (arith, both.long, room.fits);
      },
      chain-written _ _ _ both c.loop-root.tree _ _ c.loop-root.place _ _ c.args.gap room.shut first own c.write_part.ensures refl ∙ left,
    )

-- `write_rule` at f(A1..An), where the loop ends: it writes f, and then the slots, those before the open place and those after it.

-- a kind that is no chain and has an open place
other_kind : (k : Kind) → kind_number k < 2 → (k ≡ kinds.Whole → ⊥) → kind_number k ≡ 1
other_kind kinds.Whole few hole = absurd (hole refl)
other_kind kinds.Pierced few hole = refl
other_kind kinds.Filled few hole = absurd (omega arith)
other_kind kinds.Composed few hole = absurd (omega arith)

pub write_rule-terminal_of-terminal-requires : goal.write_rule-terminal_of-terminal-requires
write_rule-terminal_of-terminal-requires t c = c.loop-root.invariant.1.below

pub write_rule-bounds-tree-place : goal.write_rule-bounds-tree-place
write_rule-bounds-tree-place t c =
    let room = c.loop-root.invariant.1 in
    omega (arith, room.fits, node-some _ _ _ _ c.args.counted.now.known room.below (grind (arith, c.kind_of.ensures, c.is_chain.ensures, c.loop-root-test.false)))

pub write_rule-kind_of-requires-2 : goal.write_rule-kind_of-requires-2
write_rule-kind_of-requires-2 t c = c.loop-root.invariant.1.below

-- f(A1..An)
whole-known : {t : ℕ} (c : write_rule-Then-eq t) → Whole c.args.counted.now.table.alphabet.now c.args.counted.now.table.bytes.now c.loop-root.lower.0 c.terminal_of-terminal.result.0 c.rank_of-rank.result
whole-known c =
    let whole : c.kind_of-2.result ≡ kinds.Whole = same_true the_type (search rules) _ _ (sym c.if-eq.ensures) in
    whole-node _ _ _ _ c.args.counted.now.known c.loop-root.invariant.1.below c.terminal_of-terminal.ensures c.rank_of-rank.ensures (sym c.kind_of-2.ensures ∙ ap kind_number whole)

pub write_rule-overflow_add-place-then-eq : goal.write_rule-overflow_add-place-then-eq
write_rule-overflow_add-place-then-eq t c =
    let node = whole-known (goal.at.write_rule-overflow_add-place-then-eq t c).Then-eq in
    omega (arith, ap length node.first, c.loop-root.invariant.1.fits)

pub write_rule-write_slots-requires : goal.write_rule-write_slots-requires
write_rule-write_slots-requires t c =
    let room = c.loop-root.invariant.1 in
    let node = whole-known (goal.at.write_rule-write_slots-requires t c).Then-eq in (
      omega arith,
      record {
        below = room.below;
        few = node.few;
        slots = node.slots;
        fits = omega (arith, room.fits, ap length node.first, length-set c.loop-root.tree c.loop-root.place c.terminal_of-terminal.result.0);
      },
    )

pub write_rule-returns-then-eq : goal.write_rule-returns-then-eq
write_rule-returns-then-eq t c =
    let node = whole-known (goal.at.write_rule-returns-then-eq t c).Then-eq in
    whole-written _ _ _ node c.loop-root.tree _ c.loop-root.place c.args.gap c.write_slots.ensures.written ∙ c.loop-root.invariant.2

-- f(A1..An) with an open place
pierced-known : {t : ℕ} (c : write_rule-After-hole_of-hole t)
    → Pierced c.args.counted.now.table.alphabet.now c.args.counted.now.table.bytes.now c.loop-root.lower.0 c.terminal_of-terminal.result.0 c.rank_of-rank.result c.hole_of-hole.result
pierced-known c =
    let few : kind_number c.kind_of-2.result < 2 = grind (arith, c.kind_of.ensures, c.kind_of-2.ensures, c.is_chain.ensures, c.loop-root-test.false) in
    pierced-node _ _ _ _ c.args.counted.now.known c.loop-root.invariant.1.below c.terminal_of-terminal.ensures c.rank_of-rank.ensures c.hole_of-hole.ensures
    (sym c.kind_of-2.ensures ∙ other_kind _ few (same_false the_type _ _ (sym c.if-eq.ensures)))

pub write_rule-overflow_sub-hole : goal.write_rule-overflow_sub-hole
write_rule-overflow_sub-hole t c = (pierced-known c).some

pub write_rule-overflow_add-place-2 : goal.write_rule-overflow_add-place-2
write_rule-overflow_add-place-2 t c =
    let node = pierced-known (goal.at.write_rule-overflow_add-place-2 t c).After-hole_of-hole in
    omega (arith, ap length node.first, c.loop-root.invariant.1.fits)

pub write_rule-write_slots-end-requires : goal.write_rule-write_slots-end-requires
write_rule-write_slots-end-requires t c =
    let room = c.loop-root.invariant.1 in
    let node = pierced-known (goal.at.write_rule-write_slots-end-requires t c).After-hole_of-hole in (
      omega arith,
      record {
        below = room.below;
        few = omega (arith, node.few, node.within);
        slots = node.slots-before;
        fits = omega (arith, room.fits, ap length node.first, length-set c.loop-root.tree c.loop-root.place c.terminal_of-terminal.result.0);
      },
    )

pub write_rule-overflow_add-end : goal.write_rule-overflow_add-end
write_rule-overflow_add-end t c =
    let node = pierced-known (goal.at.write_rule-overflow_add-end t c).After-hole_of-hole in
    omega (arith, c.write_slots-end.ensures.end, ap length node.first, c.loop-root.invariant.1.fits)

pub write_rule-write_slots-requires-2 : goal.write_rule-write_slots-requires-2
write_rule-write_slots-requires-2 t c =
    let room = c.loop-root.invariant.1 in
    let node = pierced-known (goal.at.write_rule-write_slots-requires-2 t c).After-hole_of-hole in
    let kept = c.write_slots-end.auto.tree ∙ length-set c.loop-root.tree c.loop-root.place c.terminal_of-terminal.result.0 in (
      omega arith,
      record {
        below = room.below;
        few = node.few;
        slots = node.slots-after;
        fits = omega (arith, room.fits, c.write_slots-end.ensures.end, ap length node.first, ap length node.last);
      },
    )

pub write_rule-returns : goal.write_rule-returns
write_rule-returns t c =
    let node = pierced-known (goal.at.write_rule-returns t c).After-hole_of-hole in
    let first = c.write_slots-end.ensures in
    pierced-written _ _ _ node c.loop-root.tree _ _ c.loop-root.place _ c.args.gap first.written first.end c.write_slots-2.ensures.written ∙ c.loop-root.invariant.2

-- `write_slots`: a slot's count is the number of its symbols, since these fit in the tree.

pub write_slots-loop-j-init : goal.write_slots-loop-j-init
write_slots-loop-j-init t c = (c.requires.slots, refl, refl)

-- the slot of a turn
slot_known : {t : ℕ} (c : write_slots-After-slot_of-slot t) → SlotStep c.args.counted.now.table.alphabet.now c.args.counted.now.table.bytes.now c.args.rule.0 c.loop-j.j c.args.to c.slot_of-slot.result.0
slot_known c =
    let known = c.args.counted.now.known in
    let room = c.requires in
    slot_step _ _ _ known _ room.below _ _ _ c.loop-j-test.true c.loop-j.invariant.0 c.slot_of-slot.ensures

pub write_slots-write_part-requires : goal.write_slots-write_part-requires
write_slots-write_part-requires t c =
    let known = c.args.counted.now.known in
    let room = c.requires in
    let slot = slot_known (goal.at.write_slots-write_part-requires t c).After-slot_of-slot in
    (omega arith, record { below = omega arith; shut = λ e. refl; fits = omega (arith, ap length slot.none) })

pub write_slots-own_of-requires : goal.write_slots-own_of-requires
write_slots-own_of-requires t c =
    let known = c.args.counted.now.known in
    let room = c.requires in
    let slot = slot_known (goal.at.write_slots-own_of-requires t c).After-slot_of-slot in
    omega arith

-- the slot's count is the number of its symbols
slot_own : {t : ℕ} (c : write_slots-After-own_of t) → c.own_of.result ≡ length (symbols_before (value_in c.args.counted.now.table.alphabet.now c.args.counted.now.table.bytes.now c.slot_of-slot.result.0))
slot_own {t} c =
    let known = c.args.counted.now.known in
    let room = c.requires in
    let slot = slot_known (goal.at.write_slots-overflow_add-end t c).After-slot_of-slot in
    let none = ap length slot.none in
    c.own_of.ensures ∙ own-exact known _ (omega arith) (omega arith) ∙ omega arith

pub write_slots-overflow_add-end : goal.write_slots-overflow_add-end
write_slots-overflow_add-end t c =
    let slot = slot_known (goal.at.write_slots-overflow_add-end t c).After-slot_of-slot in
    omega (arith, slot_own c, slot.long)

pub write_slots-loop-j-preserved : goal.write_slots-loop-j-preserved
write_slots-loop-j-preserved t c =
    let slot = slot_known (goal.at.write_slots-loop-j-preserved t c).After-slot_of-slot in
    let (more, end, same) = c.loop-j.invariant in (
      slot.rest,
      omega (arith, slot_own c),
      slot_written _ _ _ _ _ _ slot c.loop-j.tree _ c.loop-j.end _ c.write_part.ensures (slot_own c) ∙ same,
    )

pub write_slots-returns-clause-end : goal.write_slots-returns-clause-end
write_slots-returns-clause-end t c =
    let none = slots-none (slot_of c.args.counted.now.table.bytes.now c.args.rule.0) c.loop-j.j c.args.to c.loop-j-test.false in
    rw (none, add-zero) at c.loop-j.invariant.1

pub write_slots-returns-clause-written : goal.write_slots-returns-clause-written
write_slots-returns-clause-written t c =
    let none = slots-none (slot_of c.args.counted.now.table.bytes.now c.args.rule.0) c.loop-j.j c.args.to c.loop-j-test.false in
    rw none at c.loop-j.invariant.2
