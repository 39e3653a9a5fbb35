-- `capi::rule_calls::read_into` meets its contract: in a slice of seven places stands what was read.
use mathlib.Core.Path.{◌∙◌}
use Rattle.std.proofs.Common.{arith}
use Rattle.std.specs.Prelude.{Ok, Err}
use Rattle.terms.proofs.InTurn.{in_turn}
use Rattle.capi.proofs.RuleRead.{reading_said}
use Rattle.capi.proofs.rule_calls.read_into.Goals as goal

pub returns-in_err-read_number-clause-refusal : goal.returns-in_err-read_number-clause-refusal
returns-in_err-read_number-clause-refusal c =
    let said = reading_said _ _ _ c.args.rule.now (Err c.in_err-read_number.field-0.0) c.if-rule-lt-NUMBERS.false c.in_err-read_number.ensures in
    grind (arith, in_turn, said.0)

pub returns-in_err-read_number-clause-rule : goal.returns-in_err-read_number-clause-rule
returns-in_err-read_number-clause-rule c = (reading_said _ _ _ c.args.rule.now (Err c.in_err-read_number.field-0.0) c.if-rule-lt-NUMBERS.false c.in_err-read_number.ensures).1

pub returns-clause-refusal : goal.returns-clause-refusal
returns-clause-refusal c = (reading_said _ _ _ c.args.rule.now (Ok c.in_ok-read_number.field-0) c.if-rule-lt-NUMBERS.false c.in_ok-read_number.ensures).0

pub returns-clause-rule : goal.returns-clause-rule
returns-clause-rule c = c.write_numbers.ensures ∙ (reading_said _ _ _ c.args.rule.now (Ok c.in_ok-read_number.field-0) c.if-rule-lt-NUMBERS.false c.in_ok-read_number.ensures).1
