-- `blackboard` meets its contract: the tables of a sheet that was read are what runs say.
use mathlib.Core.Path.{◌≡◌}
use native.Mathlib.Omega.{arith}
use lib.ListN.{length}
use Rattle.terms.specs.Sheet.{rules_of}
use Rattle.terms.proofs.Sheet.Passed.{sheet-proper}
use Rattle.blackboard.proofs.Tabled.{right_by_runs}
use Rattle.blackboard.proofs.blackboard.Goals as goal

pub overflow_mul-read : goal.overflow_mul-read
overflow_mul-read c =
    let read = c.in_ok-read.read in
    let counted : read.count ≡ length (rules_of read.bytes.now) = read.counted in
    omega (arith, (sheet-proper read.bytes.now read.passes).few)

pub returns-clause-runs : goal.returns-clause-runs
returns-clause-runs c =
    right_by_runs c.args.sheet.now c.args.table.now c.in_ok-read.ensures.bytes c.in_ok-read.read.passes c.table_read.ensures.value c.table_read.ensures.table_after
