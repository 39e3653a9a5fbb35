-- `counting::counts::filled_counts` meets its contract: B and C are lower rules, and so have counts.
use mathlib.Core.Path.{◌≡◌, refl}
use mathlib.Core.List.{List}
use Prim.Native.Nat.{ℕ, ◌+◌}
use native.Mathlib.Omega.{arith}
use Rattle.terms.specs.Form.{Rule, filled}
use Rattle.terms.specs.Count.{capped}
use Rattle.counting.specs.Private.Counts.{HasCounts, own_in, CountedRule}
use Rattle.forms.proofs.Rules.{is-filled}
use Rattle.counting.proofs.Readable.{chain_counted}
use Rattle.counting.proofs.counts.filled_counts.Goals as goal
use Rattle.counting.proofs.counts.filled_counts.Goals.{After-slot_of-inner}

-- the counts of B(C)
counted-filled : (counts : List ℕ) (rule : Rule) (b c n : ℕ) → rule ≡ filled b c → n ≡ capped (own_in counts b + own_in counts c) → CountedRule counts rule n 0
counted-filled counts rule b c n e own = rw e (record { own = own; prior = refl })

-- the slots of B and C have counts
named : (c : After-slot_of-inner) → HasCounts c.args.counts.now c.slot_of-outer.result.0 × HasCounts c.args.counts.now c.slot_of-inner.result.0
named c = rw (c.slot_of-outer.ensures, c.slot_of-inner.ensures) (chain_counted _ _ c.args.table.now.valid c.args.rule.0 c.requires.0 c.args.counts.now c.requires.1 (omega (arith, c.requires.2)))

pub own_of-requires : goal.own_of-requires
own_of-requires c = (named (goal.at.own_of-requires c).After-slot_of-inner).0

pub own_of-requires-2 : goal.own_of-requires-2
own_of-requires-2 c = (named (goal.at.own_of-requires-2 c).After-slot_of-inner).1

pub returns : goal.returns
returns c =
    counted-filled c.args.counts.now _ _ _ _ (is-filled _ _ c.args.table.now.valid c.args.rule.0 c.requires.0 c.requires.2)
    (rw (c.own_of.ensures, c.own_of-2.ensures, c.slot_of-outer.ensures, c.slot_of-inner.ensures) at c.add_capped-own.ensures)
