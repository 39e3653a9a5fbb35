-- `lane_calls::call::call_in_lane` meets its contract: the joined relations are applied to the set of the first parameter.
use mathlib.Core.Path.{◌∙◌}
use Rattle.lane_calls.proofs.Lanes.{lane_has}
use Rattle.lane_calls.proofs.Choices.{call-is}
use Rattle.lane_calls.proofs.call.call_in_lane.Goals as goal

pub returns : goal.returns
returns c =
    let a = c.args in
    c.apply.ensures ∙ call-is _ _ _ _ c.joined.ensures (lane_has a.p a.sets.now 0)
