-- `contraction::contract_terminal::close` meets its contract: the rule is the model's, and the cell names it.
use Rattle.contraction.proofs.Terminals.{closes}
use Rattle.contraction.proofs.contract_terminal.close.Goals as goal

pub returns : goal.returns
returns c = closes _ _ c.rule_over-rule.ensures c.add_rule-number.ensures c.add_cell.ensures
