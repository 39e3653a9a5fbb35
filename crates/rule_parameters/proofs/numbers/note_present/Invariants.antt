-- `rule_parameters::numbers::note_present` meets its contract. The invariant: the flags of the parameters that were passed are noted, and other flags are kept.
use Rattle.rule_parameters.specs.Numbers.{PresentNoted}
use Rattle.rule_parameters.proofs.numbers.note_present.Given as goal

abbrev pub invariant-loop-parameter : goal.invariant-loop-parameter
invariant-loop-parameter l = PresentNoted l.nodes l.parameter l.first l.initial.present l.present
