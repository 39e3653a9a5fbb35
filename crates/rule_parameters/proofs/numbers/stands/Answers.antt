-- `rule_parameters::numbers::stands` meets its contract: the parameter stands among the nodes where its byte does.
use mathlib.Core.Path.{◌∙◌}
use Rattle.rule_parameters.proofs.Parameters.{stands-any}
use Rattle.rule_parameters.proofs.numbers.stands.Goals as goal

pub returns : goal.returns
returns c = c.contains.ensures.value ∙ stands-any c.args.parameter c.requires c.args.nodes.now
