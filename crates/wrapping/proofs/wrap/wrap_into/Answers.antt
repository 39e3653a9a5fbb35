-- `wrapping::wrap::wrap_into` meets its contract: the tree becomes the body of one rule, and the sheet of that body is written. What passed is short enough.
use Rattle.std.proofs.Common.{ap, length, arith}
use Rattle.terms.specs.Sheet.{wrapped}
use Rattle.terms.proofs.Sheet.Wrap.{wrap_passed}
use Rattle.wrapping.proofs.wrap.wrap_into.Goals as goal

pub one_rule-requires : goal.one_rule-requires
one_rule-requires c = (wrap_passed _ _ _ _ c.requires).lengths.nodes

pub write_sheet-requires : goal.write_sheet-requires
write_sheet-requires c =
    let p = wrap_passed _ _ _ _ c.requires in
    omega (arith, p.lengths, p.fits, ap length c.one_rule.ensures)

pub returns : goal.returns
unfolding wrapped
returns c = rw c.one_rule.ensures at c.write_sheet.ensures
