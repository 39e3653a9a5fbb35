use mathlib.Core.Path.{sym}
use Rattle.terms.proofs.Scan.{every_fails, every-passes, every-done}
use Rattle.slot_checks.proofs.Laws.{failed, passed}
use Rattle.forms.proofs.check.rules_fit.Goals as goal

pub returns-then-not-rule_fits : goal.returns-then-not-rule_fits
returns-then-not-rule_fits c =
    sym (every_fails _ _ _ c.loop-number.invariant c.loop-number-test.true (failed c.rule_fits.ensures c.if-not-rule_fits.true))

pub loop-number-preserved : goal.loop-number-preserved
loop-number-preserved c = every-passes _ _ _ c.loop-number.invariant c.loop-number-test.true (passed c.rule_fits.ensures c.if-not-rule_fits.false)

pub returns : goal.returns
returns c = sym (every-done _ _ _ c.loop-number.invariant c.loop-number-test.false)
