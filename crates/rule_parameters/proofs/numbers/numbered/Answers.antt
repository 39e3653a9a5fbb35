-- `rule_parameters::numbers::numbered` meets its contract: a parameter gets the number of the present ones before it, and any other byte stays.
use mathlib.Core.Path.{sym, ◌∙◌, ap}
use native.Mathlib.Omega.{arith}
use lib.ListN.{drop}
use Rattle.nodes.specs.Nodes.{naming}
use Rattle.cleaning_terms.proofs.Flags.{trues-take}
use Rattle.cleaning_terms.proofs.Names.{parameter-byte}
use Rattle.rule_parameters.proofs.numbers.numbered.Goals as goal

pub present_before-requires : goal.present_before-requires
present_before-requires c = (omega (arith, (parameter-byte _ _ (sym c.name_of.ensures ∙ ap naming c.in-Parameter.is)).1), c.requires)

pub overflow_add-result : goal.overflow_add-result
overflow_add-result c =
    let few = trues-take (drop c.args.first c.args.present.now) c.in-Parameter.j in
    omega (arith, c.present_before.ensures, few, (parameter-byte _ _ (sym c.name_of.ensures ∙ ap naming c.in-Parameter.is)).1)
