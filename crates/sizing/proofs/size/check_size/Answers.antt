-- `sizing::size::check_size` meets its contract: the rows come in the order of the definition.
use native.Mathlib.Omega.{arith}
use borrow.Author.Tests.{lt-ltb, le-ltb}
use Prim.Native.Nat.{◌*◌}
use Rattle.terms.specs.FormBytes.{rule_count}
use Rattle.terms.specs.Calls.{counts_per_rule, size_refusal}
use Rattle.terms.proofs.InTurn.{went_on}
use Rattle.counting.proofs.Start.{opened-rules}
use Rattle.sizing.proofs.size.check_size.Goals as goal

pub returns-then-numbers-count-clause-refusal : goal.returns-then-numbers-count-clause-refusal
unfolding size_refusal
returns-then-numbers-count-clause-refusal c =
    rw (went_on _ _ c.in_ok-opened.ensures.refusal, lt-ltb c.args.numbers (counts_per_rule * rule_count c.args.form.now) (omega (arith, c.if-numbers-count.true, c.count.ensures, opened-rules c.in_ok-opened.ensures.parts)))

pub returns-clause-refusal : goal.returns-clause-refusal
unfolding size_refusal
returns-clause-refusal c =
    rw (went_on _ _ c.in_ok-opened.ensures.refusal, le-ltb c.args.numbers (counts_per_rule * rule_count c.args.form.now) (omega (arith, c.if-numbers-count.false, c.count.ensures, opened-rules c.in_ok-opened.ensures.parts)))
