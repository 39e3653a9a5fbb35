-- `contraction::contract_terminal::contract_terminal` meets its contract: which children are open decides, as in the model.
use Rattle.contraction.specs.declared.contract_terminal.Open.TheVariants.{Several}
use Rattle.contraction.proofs.Terminals.{all_kept, branches, grows}
use Rattle.contraction.proofs.contract_terminal.contract_terminal.Goals as goal

pub returns-in-Several : goal.returns-in-Several
returns-in-Several c =
    let added = rw (all_kept c.args.terminal c.args.children.now c.requires.lower.few) at c.add_terminal.ensures in
    grows Several c.in-Several.is c.open_among.ensures (branches _ _ c.requires.lower.few added)
