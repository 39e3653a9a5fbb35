-- What the cell is decides, as in the model.
use Rattle.std.proofs.Common.{◌-◌, sym, ◌∙◌, arith}
use Rattle.contraction.proofs.Substituting.{argument_there, parameter_instanced, rule_instanced, inner, inner-room, under_instanced}
use Rattle.contraction.proofs.Children.{none_instanced, instance_at, child-falls, child_instance, child_instanced, branches, rank-few, these_long, branch-room, branch_instanced}
use Rattle.contraction.proofs.substitute.+substitute.Goals as goal

-- a parameter: its argument is there

pub bounds-args-j : goal.bounds-args-j
bounds-args-j t c = omega (arith, argument_there c.requires (sym c.cell.ensures ∙ c.in-Parameter.is))

pub returns-in-Parameter : goal.returns-in-Parameter
returns-in-Parameter t c = parameter_instanced c.requires (sym c.cell.ensures ∙ c.in-Parameter.is)

-- a rule

pub returns-in-Closed : goal.returns-in-Closed
returns-in-Closed t c = rule_instanced c.requires (sym c.cell.ensures ∙ c.in-Closed.is)

-- a rule over a cell

pub substitute-inner-requires : goal.substitute-inner-requires
substitute-inner-requires t c =
    let i = inner c.requires (sym c.cell.ensures ∙ c.in-Over.is) in
    (omega (arith, i.falls), i.instance)

pub contract_chain-requires-clause-room : goal.contract_chain-requires-clause-room
contract_chain-requires-clause-room t c = inner-room c.requires (sym c.cell.ensures ∙ c.in-Over.is) c.substitute-inner.ensures

pub returns-in-Over : goal.returns-in-Over
returns-in-Over t c = under_instanced c.requires (sym c.cell.ensures ∙ c.in-Over.is) c.substitute-inner.ensures c.contract_chain.ensures

-- a terminal over cells

pub loop-j-init : goal.loop-j-init
loop-j-init t c = none_instanced _ _ _ _ _

pub bounds-made-j : goal.bounds-made-j
bounds-made-j t c = omega (arith, c.loop-j.auto.j, rank-few c.requires (sym c.cell.ensures ∙ c.in-Terminal.is))

pub substitute-requires : goal.substitute-requires
substitute-requires t c =
    let i = instance_at (branches c.requires (sym c.cell.ensures ∙ c.in-Terminal.is)).children (c.loop-j.j - 1) (omega (arith, c.loop-j.auto.j)) in
    (omega (arith, child-falls i (omega (arith, c.loop-j.auto.j)) (omega arith) c.loop-j.invariant), child_instance i (omega (arith, c.loop-j.auto.j)) (omega arith) c.loop-j.invariant)

pub bounds-made-j-in-loop-j : goal.bounds-made-j-in-loop-j
bounds-made-j-in-loop-j t c = omega (arith, c.loop-j.auto.j, rank-few c.requires (sym c.cell.ensures ∙ c.in-Terminal.is))

pub loop-j-preserved : goal.loop-j-preserved
loop-j-preserved t c =
    let i = instance_at (branches c.requires (sym c.cell.ensures ∙ c.in-Terminal.is)).children (c.loop-j.j - 1) (omega (arith, c.loop-j.auto.j)) in
    child_instanced i (omega (arith, c.loop-j.auto.j)) (omega arith) c.loop-j.invariant c.substitute.ensures

pub slice_bounds-made-end : goal.slice_bounds-made-end
slice_bounds-made-end t c = omega (arith, c.loop-j.invariant.long, (branches c.requires (sym c.cell.ensures ∙ c.in-Terminal.is)).children.fits)

pub slice_bounds-contract_terminal-end : goal.slice_bounds-contract_terminal-end
slice_bounds-contract_terminal-end t c = sym (these_long c.requires (sym c.cell.ensures ∙ c.in-Terminal.is) (omega arith) c.loop-j.invariant)

pub contract_terminal-requires-clause-room : goal.contract_terminal-requires-clause-room
contract_terminal-requires-clause-room t c = branch-room c.requires (sym c.cell.ensures ∙ c.in-Terminal.is) (omega arith) c.loop-j.invariant

pub returns-after-loop-j : goal.returns-after-loop-j
returns-after-loop-j t c = branch_instanced c.requires (sym c.cell.ensures ∙ c.in-Terminal.is) (omega arith) c.loop-j.invariant c.contract_terminal.ensures
