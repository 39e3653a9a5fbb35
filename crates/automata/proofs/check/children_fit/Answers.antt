use mathlib.Core.Path.{sym, ◌∙◌}
use native.Mathlib.Omega.{arith}
use Rattle.terms.proofs.Scan.{every_fails, every-passes, every-done}
use Rattle.automata.proofs.check.children_fit.Goals as goal

pub returns-then-not-child_fits : goal.returns-then-not-child_fits
returns-then-not-child_fits c =
    sym (every_fails _ _ _ c.loop-j.invariant.1 c.loop-j-test.true (sym c.child_fits.ensures ∙ c.if-not-child_fits.true))

pub loop-j-preserved : goal.loop-j-preserved
loop-j-preserved c =
    (omega arith, every-passes _ _ _ c.loop-j.invariant.1 c.loop-j-test.true (sym c.child_fits.ensures ∙ c.if-not-child_fits.false))

pub returns : goal.returns
returns c = sym (every-done _ _ _ c.loop-j.invariant.1 c.loop-j-test.false)
