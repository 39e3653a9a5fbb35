use native.Mathlib.Omega.{arith}
use Rattle.grammars.proofs.Body.{rule_passed, all_passed, cut_short}
use Rattle.grammars.proofs.rules.count_rules.Goals as goal

pub returns-then-body-span : goal.returns-then-body-span
returns-then-body-span c =
    cut_short _ _ _ _ c.loop-at.invariant c.span_at-span.ensures (omega arith) (omega arith)

pub loop-at-preserved : goal.loop-at-preserved
loop-at-preserved c =
    rule_passed _ _ _ _ c.loop-at.invariant c.span_at-span.ensures (omega arith)

pub returns : goal.returns
returns c = all_passed _ _ _ _ c.loop-at.invariant (omega arith)
