-- `contraction::contract_terminal::pierce` meets its contract: the rule is the model's, and it is put over the open child.
use Rattle.contraction.proofs.Terminals.{pierces}
use Rattle.contraction.proofs.contract_terminal.pierce.Goals as goal

pub returns : goal.returns
returns c = pierces _ _ c.args.place c.rule_over-rule.ensures c.add_rule-context.ensures c.contract_chain.ensures
