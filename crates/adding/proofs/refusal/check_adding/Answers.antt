-- `adding::refusal::check_adding` meets its contract: a form that passes its check has a head.
use mathlib.Core.Path.{sym}
use native.Mathlib.Omega.{arith}
use Rattle.terms.proofs.Form.Bytes.{form_passed}
use Rattle.adding.proofs.refusal.check_adding.Goals as goal

pub rule_count-requires : goal.rule_count-requires
rule_count-requires c = omega (arith, (form_passed _ _ (sym c.in_ok-check_form.ensures)).long)
