-- `both_methods` meets its contract: the blackboard method answers the mask of the sheet, as demand 3 says of evaluation and of the walk.
use Rattle.two_methods.proofs.Methods.{same-mask}
use Rattle.two_methods.proofs.both_methods.Goals as goal

pub returns : goal.returns
returns c =
    let tables = c.blackboard-tabled.ensures in
    let certified = c.certify-certified.ensures in
    record {
      calls = record { tabled = tables.answer; tables = tables.table; certified = certified.calls };
      same = (same-mask _ _ _ _ _ c.blackboard-tabled.new.table _ _ record { tabled = tables.answer; tables = tables.table; certified = certified.calls } certified.demand).1;
    }
