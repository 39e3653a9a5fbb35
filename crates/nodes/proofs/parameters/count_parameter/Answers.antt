-- `nodes::parameters::count_parameter` meets its contract: the count of the parameter that is named grows by one, and nothing changes at any other name.
use mathlib.Core.Path.{ap}
use Rattle.nodes.specs.Nodes.{naming}
use Rattle.nodes.proofs.parameters.count_parameter.Goals as goal

pub bounds-counts-parameter : goal.bounds-counts-parameter
bounds-counts-parameter c = c.requires.0 _ (ap naming c.in-Parameter.is)

pub bounds-counts-parameter-in-Parameter : goal.bounds-counts-parameter-in-Parameter
bounds-counts-parameter-in-Parameter c = c.requires.0 _ (ap naming c.in-Parameter.is)
