use mathlib.Core.Path.{◌≡◌, sym, ◌∙◌, ap}
use Prim.Native.Nat.{ℕ, ◌+◌, ◌-◌, ◌≤◌, ◌<◌}
use native.Mathlib.Omega.{arith}
use Rattle.terms.specs.FormBytes.{slot_of}
use Rattle.terms.specs.Count.{capped}
use Rattle.counting.specs.Private.Counts.{total, own_in, slots_from}
use Rattle.counting.proofs.Slots.{slots-none, slots-back}
use Rattle.counting.proofs.counts.sum_slots.Goals as goal

-- the slot before j, and those from j on
sum_more : (own slot : ℕ → ℕ) (j to : ℕ) → 0 < j → j ≤ to
    → capped (own (slot (j - 1)) + capped (total own (slots_from slot j to))) ≡ capped (total own (slots_from slot (j - 1) to))
sum_more own slot j to h k = rw (slots-back slot j to h k) (omega arith)

pub loop-j-init : goal.loop-j-init
loop-j-init c =
    let a = c.args in
    (omega arith, sym (ap (λ slots. capped (total (own_in a.counts.now) slots)) (slots-none (slot_of a.table.now.bytes.now a.rule.0) a.to a.to (omega arith))))

pub loop-j-preserved : goal.loop-j-preserved
loop-j-preserved c =
    let a = c.args in
    let slot = slot_of a.table.now.bytes.now a.rule.0 in (
      omega arith,
      c.add_capped-sum.ensures
          ∙ rw (c.own_of.ensures, c.slot_of.ensures, c.loop-j.invariant.1)
          (sum_more (own_in a.counts.now) slot c.loop-j.j a.to (omega arith) (omega arith)),
    )
