use mathlib.Core.Path.{sym}
use Rattle.slot_checks.proofs.Laws.{failed, passed}
use Rattle.terms.proofs.Scan.{every_fails, every-passes, every-done}
use Rattle.slot_checks.proofs.slots_fit.Goals as goal

pub returns-then-not-slot_fits : goal.returns-then-not-slot_fits
returns-then-not-slot_fits c =
    sym (every_fails _ _ _ c.loop-j.invariant c.loop-j-test.true (failed c.slot_fits.ensures c.if-not-slot_fits.true))

pub loop-j-preserved : goal.loop-j-preserved
loop-j-preserved c = every-passes _ _ _ c.loop-j.invariant c.loop-j-test.true (passed c.slot_fits.ensures c.if-not-slot_fits.false)

pub returns : goal.returns
returns c = sym (every-done _ _ _ c.loop-j.invariant c.loop-j-test.false)
