-- `rule_parameters::numbers::present_before` meets its contract: the flags that are counted are those that are true.
use Rattle.std.proofs.Common.{◌≡◌, ◌∙◌, sym, take, drop, rules}
use Rattle.std.specs.List.{count_by}
use Rattle.rule_parameters.proofs.Parameters.{trues-count}
use Rattle.rule_parameters.proofs.numbers.present_before.Goals as goal

pub returns : goal.returns
returns c =
    let counted : c.count.result ≡ count_by (λ b. b) (take c.args.parameter (drop c.args.first c.args.present.now)) = search rules in
    counted ∙ sym (trues-count _)
