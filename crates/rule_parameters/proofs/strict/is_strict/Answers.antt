-- `rule_parameters::strict::is_strict` meets its contract: the rules that are read one after another are those of the body.
use Rattle.std.proofs.Common.{◌≡◌, ◌∙◌, refl, rules, tests}
use Rattle.std.specs.List.{list_all}
use Rattle.std.proofs.lemmas.Iterator.Search.{all_from_yields_List}
use Rattle.std.proofs.lemmas.Iterator.Consumers.{YieldsList-from_first}
use Rattle.terms.specs.Sheet.{rules_body}
use Rattle.rule_parameters.specs.Strict.{strict_rule}
use Rattle.rule_parameters.proofs.StrictScan.{all-std}
use Rattle.rule_parameters.proofs.strict.is_strict.Goals as goal

pub returns : goal.returns
returns c =
    let body_rules = (rules_body c.args.body.now).rules in
    let by_call : c.all.result ≡ list_all strict_rule body_rules = all_from_yields_List strict_rule c.all.new.self _ _ c.all.ensures.ran (YieldsList-from_first _ _ {s = record { body = c.args.body }} body_rules refl) (λ x b q k. search (rules, tests)) in
    by_call ∙ all-std strict_rule body_rules
