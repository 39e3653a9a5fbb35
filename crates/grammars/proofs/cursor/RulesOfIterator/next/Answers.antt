-- `next` of the rules of a body meets its contract: the body is read as its first rule and the rules behind it.
use mathlib.Core.Path.{refl, ap}
use borrow.Author.Rules.{rules}
use lib.ListN.{length, length-drop}
use native.Mathlib.Omega.{arith}
use Rattle.grammars.proofs.Body.{no_head, nodes_lack, first_rule, behind_head}
use Rattle.grammars.proofs.cursor.RulesOfIterator.next.Goals as goal

pub returns-in_default-clause-steps : goal.returns-in_default-clause-steps
returns-in_default-clause-steps c = (no_head _ (omega arith), no_head _ (omega arith))

pub returns-in_err-nodes-clause-steps : goal.returns-in_err-nodes-clause-steps
returns-in_err-nodes-clause-steps c =
    let lack = rw behind_head at c.in_err-nodes.ensures.cases in
    let none = nodes_lack c.args.self.now.body.now (omega arith) refl (omega (arith, lack, length-drop 2 c.args.self.now.body.now)) in
    rw c.from_residual.ensures (none, none)

pub returns-clause-steps : goal.returns-clause-steps
returns-clause-steps c =
    let split = rw behind_head at c.in_ok-nodes.ensures.cases in
    rw (split.1, split.2) (first_rule c.args.self.now.body.now (omega arith) refl (omega (arith, split.0, length-drop 2 c.args.self.now.body.now)))

pub returns-clause-goes : goal.returns-clause-goes
returns-clause-goes c =
    let split = rw behind_head at c.in_ok-nodes.ensures.cases in
    let e = first_rule c.args.self.now.body.now (omega arith) refl (omega (arith, split.0, length-drop 2 c.args.self.now.body.now)) in
    rw split.2 (search (rules, ap length e))
