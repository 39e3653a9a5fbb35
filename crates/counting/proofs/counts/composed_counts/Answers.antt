-- `counting::counts::composed_counts` meets its contract: B and C are lower rules, and so have counts.
use mathlib.Core.Path.{◌≡◌}
use mathlib.Core.List.{List}
use Prim.Native.Nat.{ℕ, ◌+◌}
use native.Mathlib.Omega.{arith}
use Rattle.terms.specs.Form.{Rule, composed}
use Rattle.terms.specs.Count.{capped}
use Rattle.counting.specs.Private.Counts.{HasCounts, own_in, before_in, CountedRule}
use Rattle.forms.proofs.Rules.{is-composed}
use Rattle.counting.proofs.Readable.{chain_counted}
use Rattle.counting.proofs.counts.composed_counts.Goals as goal
use Rattle.counting.proofs.counts.composed_counts.Goals.{After-slot_of-inner}

-- the counts of B(C(y))
counted-composed : (counts : List ℕ) (rule : Rule) (b c n m : ℕ) → rule ≡ composed b c → n ≡ capped (own_in counts b + own_in counts c)
    → m ≡ capped (before_in counts b + before_in counts c) → CountedRule counts rule n m
counted-composed counts rule b c n m e own prior = rw e (record { own = own; prior = prior })

-- the slots of B and C have counts
named : (c : After-slot_of-inner) → HasCounts c.args.counts.now c.slot_of-outer.result.0 × HasCounts c.args.counts.now c.slot_of-inner.result.0
named c = rw (c.slot_of-outer.ensures, c.slot_of-inner.ensures) (chain_counted _ _ c.args.table.now.valid c.args.rule.0 c.requires.0 c.args.counts.now c.requires.1 (omega (arith, c.requires.2)))

pub own_of-requires : goal.own_of-requires
own_of-requires c = (named (goal.at.own_of-requires c).After-slot_of-inner).0

pub own_of-requires-2 : goal.own_of-requires-2
own_of-requires-2 c = (named (goal.at.own_of-requires-2 c).After-slot_of-inner).1

pub before_of-requires : goal.before_of-requires
before_of-requires c = (named (goal.at.before_of-requires c).After-slot_of-inner).0

pub before_of-requires-2 : goal.before_of-requires-2
before_of-requires-2 c = (named (goal.at.before_of-requires-2 c).After-slot_of-inner).1

pub returns : goal.returns
returns c =
    counted-composed c.args.counts.now _ _ _ _ _ (is-composed _ _ c.args.table.now.valid c.args.rule.0 c.requires.0 (omega (arith, c.requires.2)))
    (rw (c.own_of.ensures, c.own_of-2.ensures, c.slot_of-outer.ensures, c.slot_of-inner.ensures) at c.add_capped-own.ensures)
    (rw (c.before_of.ensures, c.before_of-2.ensures, c.slot_of-outer.ensures, c.slot_of-inner.ensures) at c.add_capped-before.ensures)
