-- `contraction::contract_chain::contract_chain` meets its contract: what the cell is decides, as in the model.
use Rattle.std.proofs.Common.{sym, ◌∙◌}
use Rattle.contraction.proofs.Chain.{contract_chain_shut, contract_chain_under, contract_chain_plain}
use Rattle.contraction.proofs.contract_chain.contract_chain.Goals as goal

pub returns-in-Closed : goal.returns-in-Closed
returns-in-Closed c = contract_chain_shut _ _ _ (sym c.cell.ensures ∙ c.in-Closed.is) c.chain.ensures c.add_rule-number.ensures c.add_cell.ensures

pub returns-in-Over : goal.returns-in-Over
returns-in-Over c =
    contract_chain_under _ _ _ _ c.requires.lower (sym c.cell.ensures ∙ c.in-Over.is) c.chain-in-Over.ensures c.add_rule-number-in-Over.ensures c.add_cell-in-Over.ensures

pub returns-in-Parameter : goal.returns-in-Parameter
returns-in-Parameter c = contract_chain_plain _ _ c.requires.lower c.cell.ensures c.in-Parameter.is c.add_cell-in-Parameter.ensures
