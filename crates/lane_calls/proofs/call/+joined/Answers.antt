-- `lane_calls::call::joined`, which calls itself, meets its contract. Where no parameter would be left to choose for, the relation is read.
use mathlib.Core.Path.{◌≡◌, ap, sym, ◌∙◌}
use mathlib.Core.List.{List}
use Prim.Native.Nat.{ℕ, suc, ◌+◌, ◌-◌, ◌*◌}
use native.Mathlib.Omega.{arith}
use borrow.Author.Tests.{eq-eqb, ne_eqb}
use lib.ListN.{get_or}
use Rattle.terms.specs.Automaton.{bit, has}
use Rattle.terms.specs.Relation.{matrix}
use Rattle.relations.proofs.Matrix.{union_none}
use Rattle.blackboard_terms.specs.Step.{lanes_at}
use Rattle.lane_calls.specs.Call.{reaches}
use Rattle.lane_calls.proofs.Lanes.{lane_has}
use Rattle.lane_calls.proofs.Choices.{way-taken, way-left}
use Rattle.lane_calls.proofs.call.+joined.Goals as goal
use Rattle.lane_calls.proofs.call.+joined.Goals.{then-set-state-eq1+then-parameters-eq1, then-set-state-eq1+else-parameters-eq1, else-set-state-eq1}

-- where no parameter is left to choose for, the relation of a choice is joined
relation-read : (table sets : List ℕ) (n d r : ℕ) → n ≡ 0 → r ≡ matrix (λ p q. has (get_or table (8 * d + p) 0) q) → r ≡ matrix (reaches table sets n d)
unfolding reaches
relation-read table sets n d r e k = rw e k

pub loop-state-init : goal.loop-state-init
loop-state-init t c = (omega arith, union_none _)

pub loop-state-preserved : goal.loop-state-preserved
unfolding has bit
loop-state-preserved t c =
    let a = c.args in
    let s = c.loop-state.state in
    let table = a.table.now in
    let sets = lanes_at a.p a.sets.now in
    let n = a.parameters - 1 in
    -- a parameter is left, and the ones before it
    let one_left : suc n ≡ a.parameters = omega arith in
    let in_set = ap (λ (j : ℕ). has (get_or sets j 0) s) one_left ∙ sym (lane_has a.p a.sets.now a.parameters s (omega arith)) in (
      omega arith,
      elim c.if-set-state-eq1.branch [
        | then-set-state-eq1+then-parameters-eq1 w ↦
            w.all-is ∙ way-taken table sets n a.chosen s _ _ (in_set ∙ eq-eqb _ _ w.if-set-state-eq1.true) (relation-read table sets n _ _ (omega (arith, w.if-parameters-eq1.true)) w.relation_at-all.ensures) c.loop-state.invariant.1
        | then-set-state-eq1+else-parameters-eq1 w ↦ w.all-is ∙ way-taken table sets n a.chosen s _ _ (in_set ∙ eq-eqb _ _ w.if-set-state-eq1.true) w.joined-all.ensures c.loop-state.invariant.1
        | else-set-state-eq1 w ↦ w.all-is ∙ way-left table sets n a.chosen s _ (in_set ∙ ne_eqb _ _ w.if-set-state-eq1.false) c.loop-state.invariant.1
      ],
    )

pub returns : goal.returns
unfolding reaches
returns t c =
    let l = c.loop-state in
    let one_left : suc (c.args.parameters - 1) ≡ c.args.parameters = omega arith in
    let e : l.state ≡ 8 = omega arith in
    rw (← one_left) (rw e at l.invariant.1)
