-- `rule_parameters::strict::parameter_count` meets its contract: the nodes that are counted are the parameters.
use Rattle.std.proofs.Common.{◌≡◌, ◌∙◌, sym, rules}
use Rattle.std.specs.List.{count_by}
use Rattle.terms.specs.Grammar.{name, any_parameter}
use Rattle.rule_parameters.proofs.StrictScan.{parameters-count}
use Rattle.rule_parameters.proofs.strict.parameter_count.Goals as goal

pub returns : goal.returns
returns c =
    let counted : c.count.result ≡ count_by (λ m. any_parameter (name m)) c.args.nodes.now = search rules in
    counted ∙ sym (parameters-count _)
