-- `counting::counts::sum_slots` meets its contract. The invariant: the sum is that of the slots from j on, capped.
use mathlib.Core.Path.{◌≡◌}
use Prim.Native.Nat.{◌≤◌}
use Rattle.terms.specs.FormBytes.{slot_of}
use Rattle.terms.specs.Count.{capped}
use Rattle.counting.specs.Private.Counts.{total, own_in, slots_from}
use Rattle.counting.proofs.counts.sum_slots.Given as goal

abbrev pub invariant-loop-j : goal.invariant-loop-j
invariant-loop-j l = (l.from ≤ l.j) × (l.sum ≡ capped (total (own_in l.counts) (slots_from (slot_of l.table.bytes.now l.rule.0) l.j l.to)))
