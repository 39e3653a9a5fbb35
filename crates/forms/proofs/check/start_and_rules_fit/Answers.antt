-- `forms::check::start_and_rules_fit` meets its contract: the tests are those of the definition, in its order. A head that is in order says where the table lies.
use mathlib.Core.Path.{◌≡◌}
use Prim.Native.Nat.{◌*◌, ◌≤◌}
use native.Mathlib.Omega.{arith}
use lib.ListN.{length}
use Rattle.terms.specs.FormBytes.{head_length, rule_length, terminal_count}
use Rattle.terms.proofs.Test.{of_true}
use Rattle.terms.proofs.Form.Bytes.{HeadPassed, head_passed, table_long}
use Rattle.forms.proofs.check.start_and_rules_fit.Goals as goal

pub table_of-table-requires : goal.table_of-table-requires
table_of-table-requires c =
    let head : HeadPassed (c.args.form.now) = head_passed (c.args.form.now) (of_true _ c.requires) in
    let head-long : head_length (terminal_count (c.args.form.now)) ≤ length (c.args.form.now) = omega (arith, head.long) in
    head-long

pub rule_count-count-requires : goal.rule_count-count-requires
rule_count-count-requires c =
    let head : HeadPassed (c.args.form.now) = head_passed (c.args.form.now) (of_true _ c.requires) in
    let head-long : head_length (terminal_count (c.args.form.now)) ≤ length (c.args.form.now) = omega (arith, head.long) in
    head-long

pub start_of-requires : goal.start_of-requires
start_of-requires c =
    let head : HeadPassed (c.args.form.now) = head_passed (c.args.form.now) (of_true _ c.requires) in
    let head-long : head_length (terminal_count (c.args.form.now)) ≤ length (c.args.form.now) = omega (arith, head.long) in
    head-long

pub calls_lower-requires : goal.calls_lower-requires
calls_lower-requires c =
    let head : HeadPassed (c.args.form.now) = head_passed (c.args.form.now) (of_true _ c.requires) in
    let table_holds : length c.table_of-table.result.now ≡ rule_length * c.rule_count-count.result = rw c.table_of-table.ensures (omega (arith, table_long ((c.args.form.now)) head.long, c.rule_count-count.ensures.0)) in
    omega (arith, table_holds)

pub rules_fit-requires : goal.rules_fit-requires
rules_fit-requires c =
    let head : HeadPassed (c.args.form.now) = head_passed (c.args.form.now) (of_true _ c.requires) in
    let table_holds : length c.table_of-table.result.now ≡ rule_length * c.rule_count-count.result = rw c.table_of-table.ensures (omega (arith, table_long ((c.args.form.now)) head.long, c.rule_count-count.ensures.0)) in
    (omega (arith, table_holds), omega (arith, c.rule_count-count.ensures.0, head.few))
