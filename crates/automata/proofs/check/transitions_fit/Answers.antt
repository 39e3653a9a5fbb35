use mathlib.Core.Path.{sym, ◌∙◌}
use native.Mathlib.Omega.{arith}
use Rattle.terms.specs.Sheet.{transition_count}
use Rattle.terms.proofs.Scan.{every_fails, every-passes, every-done}
use Rattle.automata.proofs.check.transitions_fit.Goals as goal

pub transition_fits-requires : goal.transition_fits-requires
unfolding transition_count
transition_fits-requires c = omega arith

pub returns-then-not-transition_fits : goal.returns-then-not-transition_fits
returns-then-not-transition_fits c =
    sym (every_fails _ _ _ c.loop-i.invariant.1 c.loop-i-test.true (sym c.transition_fits.ensures ∙ c.if-not-transition_fits.true))

pub loop-i-preserved : goal.loop-i-preserved
loop-i-preserved c =
    (omega arith, every-passes _ _ _ c.loop-i.invariant.1 c.loop-i-test.true (sym c.transition_fits.ensures ∙ c.if-not-transition_fits.false))

pub returns : goal.returns
returns c = sym (every-done _ _ _ c.loop-i.invariant.1 c.loop-i-test.false)
