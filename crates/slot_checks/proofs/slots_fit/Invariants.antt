-- `slot_checks::slots_fit` meets its contract. The invariant: all slots fit if those below j do.
use mathlib.Core.Path.{◌≡◌}
use Rattle.terms.specs.Test.{every}
use Rattle.terms.specs.FormBytes.{slot_fits}
use Rattle.slot_checks.proofs.slots_fit.Given as goal

abbrev pub invariant-loop-j : goal.invariant-loop-j
invariant-loop-j l = every 4 (slot_fits l.table l.rule.0 l.rank l.hole) ≡ every l.j (slot_fits l.table l.rule.0 l.rank l.hole)
