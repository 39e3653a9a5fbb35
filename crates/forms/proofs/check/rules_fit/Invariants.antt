-- `forms::check::rules_fit` meets its contract. The invariant: all rules fit if those below the number do. Each lies inside the table, which has room for all.
use mathlib.Core.Path.{◌≡◌}
use Rattle.terms.specs.Test.{every}
use Rattle.terms.specs.FormBytes.{rule_fits}
use Rattle.forms.proofs.check.rules_fit.Given as goal

abbrev pub invariant-loop-number : goal.invariant-loop-number
invariant-loop-number l = every l.count (rule_fits l.alphabet l.table) ≡ every l.number (rule_fits l.alphabet l.table)
