-- `counting::counts::pierced_counts` meets its contract: the node of the terminal and those of the slots, before the open place and behind it.
use mathlib.Core.Path.{◌≡◌, ap}
use mathlib.Core.List.{List}
use Prim.Native.Nat.{ℕ, ◌+◌, ◌-◌}
use native.Mathlib.Omega.{arith}
use Rattle.terms.specs.Test.{tabulate}
use Rattle.terms.specs.Form.{Rule, pierced}
use Rattle.terms.specs.FormBytes.{slot_of}
use Rattle.terms.specs.Count.{capped}
use Rattle.counting.specs.Private.Counts.{total, own_in, slots_from, CountedRule}
use Rattle.counting.proofs.Slots.{slots-all}
use Rattle.forms.proofs.Rules.{is-pierced, hole-within}
use Rattle.counting.proofs.Readable.{left_readable, right_readable}
use Rattle.counting.proofs.counts.pierced_counts.Goals as goal

-- the counts of f(A1..An) with an open place at child h
counted-pierced : (counts : List ℕ) (rule : Rule) (f n : ℕ) (slot : ℕ → ℕ) (h s m t r : ℕ)
    → rule ≡ pierced f (tabulate (h - 1) slot) (tabulate (n - h) (λ j. slot (h + j)))
    → s ≡ capped (total (own_in counts) (slots_from slot 0 (h - 1))) → m ≡ capped (1 + s) → t ≡ capped (total (own_in counts) (slots_from slot h n))
    → r ≡ capped (m + t) → CountedRule counts rule r m
counted-pierced counts rule f n slot h s m t r e es em et er =
    let l = ap (λ slots. capped (total (own_in counts) slots)) (slots-all slot (h - 1)) in
    rw e (record { own = omega arith; prior = omega arith })

pub overflow_sub-hole : goal.overflow_sub-hole
overflow_sub-hole c = omega (arith, (hole-within _ _ c.args.table.now.valid c.args.rule.0 c.requires.0 c.requires.2).0, c.hole_of-hole.ensures)

pub sum_slots-requires : goal.sum_slots-requires
sum_slots-requires c =
    rw c.hole_of-hole.ensures (left_readable _ _ c.args.table.now.valid c.args.rule.0 c.requires.0 c.args.counts.now c.requires.1 c.requires.2)

pub sum_slots-requires-2 : goal.sum_slots-requires-2
sum_slots-requires-2 c =
    rw (c.hole_of-hole.ensures, c.rank_of-rank.ensures)
    (right_readable _ _ c.args.table.now.valid c.args.rule.0 c.requires.0 c.args.counts.now c.requires.1 c.requires.2)

pub returns : goal.returns
returns c =
    let a = c.args in
    counted-pierced a.counts.now _ _ _ (slot_of a.table.now.bytes.now a.rule.0) _ _ _ _ _
    (is-pierced _ _ a.table.now.valid a.rule.0 c.requires.0 c.requires.2)
    (rw c.hole_of-hole.ensures at c.sum_slots.ensures)
    c.add_capped-before.ensures
    (rw (c.hole_of-hole.ensures, c.rank_of-rank.ensures) at c.sum_slots-2.ensures)
    c.add_capped-own.ensures
