-- `counting::counts::whole_counts` meets its contract: the node of the terminal and those of the slots.
use mathlib.Core.Path.{◌≡◌, refl, ap}
use mathlib.Core.List.{List}
use Prim.Native.Nat.{ℕ, ◌+◌}
use native.Mathlib.Omega.{arith}
use Rattle.terms.specs.Test.{tabulate}
use Rattle.terms.specs.Form.{Rule, whole}
use Rattle.terms.specs.FormBytes.{slot_of}
use Rattle.terms.specs.Count.{capped}
use Rattle.counting.specs.Private.Counts.{total, own_in, slots_from, CountedRule}
use Rattle.counting.proofs.Slots.{slots-all}
use Rattle.forms.proofs.Rules.{is_whole}
use Rattle.counting.proofs.Readable.{whole_readable}
use Rattle.counting.proofs.counts.whole_counts.Goals as goal

-- the counts of f(A1..An)
counted-whole : (counts : List ℕ) (rule : Rule) (f n : ℕ) (slot : ℕ → ℕ) (s r : ℕ) → rule ≡ whole f (tabulate n slot)
    → s ≡ capped (total (own_in counts) (slots_from slot 0 n)) → r ≡ capped (1 + s) → CountedRule counts rule r 0
counted-whole counts rule f n slot s r e es er =
    let t = ap (λ slots. capped (total (own_in counts) slots)) (slots-all slot n) in
    rw e (record { own = omega arith; prior = refl })

pub sum_slots-requires : goal.sum_slots-requires
sum_slots-requires c = rw c.rank_of.ensures (whole_readable _ _ c.args.table.now.valid c.args.rule.0 c.requires.0 c.args.counts.now c.requires.1 c.requires.2)

pub returns : goal.returns
returns c =
    let a = c.args in
    counted-whole a.counts.now _ _ _ (slot_of a.table.now.bytes.now a.rule.0) _ _
    (is_whole _ _ a.table.now.valid a.rule.0 c.requires.0 c.requires.2)
    (rw c.rank_of.ensures at c.sum_slots.ensures)
    c.add_capped-own.ensures
