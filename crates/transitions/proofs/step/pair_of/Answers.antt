-- `transitions::step::pair_of` meets its contract: the one pair where the child states are in the sets, else none.
use mathlib.Core.Path.{ap, sym, ◌∙◌}
use Prim.Native.Nat.{ℕ, ◌+◌, ◌*◌, ◌^◌}
use native.Mathlib.Nat.{add-sub_cancel_left}
use native.Mathlib.Omega.{arith}
use lib.ListN.{length}
use Rattle.terms.specs.Sheet.{transition_byte}
use Rattle.relations.proofs.Laws.{one_shl}
use Rattle.transitions.proofs.Leads.{states_length, states_small, pair_there, pair_nowhere}
use Rattle.transitions.proofs.Checked.{usable}
use Rattle.transitions.proofs.step.pair_of.Goals as goal

pub slice_bounds-states-end : goal.slice_bounds-states-end
slice_bounds-states-end c =
    let l = c.args.linked.now in
    let u = usable _ _ l.alphabet_passes l.automaton_passes c.args.i _ c.requires.0 c.requires.1 in
    omega (arith, u.whole, u.rank)

pub all_in-requires : goal.all_in-requires
all_in-requires c =
    let l = c.args.linked.now in
    let n = length c.args.sets.now in
    let u = usable _ _ l.alphabet_passes l.automaton_passes c.args.i n c.requires.0 c.requires.1 in
    rw (add-sub_cancel_left (2 + 6 * c.args.i + 2) n) (sym (states_length _ n c.args.i u), states_small _ n c.args.i u)

pub bounds-linked-at : goal.bounds-linked-at
bounds-linked-at c =
    let l = c.args.linked.now in
    let u = usable _ _ l.alphabet_passes l.automaton_passes c.args.i _ c.requires.0 c.requires.1 in
    omega (arith, u.whole, u.rank)

pub overflow_shl-result : goal.overflow_shl-result
overflow_shl-result c =
    let l = c.args.linked.now in
    let n = length c.args.sets.now in
    let u = usable _ _ l.alphabet_passes l.automaton_passes c.args.i n c.requires.0 c.requires.1 in
    let from = rw (add-sub_cancel_left (2 + 6 * c.args.i + 2) n) at c.state_at-from.ensures in
    omega (arith, from, states_small _ n c.args.i u c.args.hole, u.target)

pub returns-then-all_in : goal.returns-then-all_in
returns-then-all_in c =
    let l = c.args.linked.now in
    let a = l.automaton.now in
    let n = length c.args.sets.now in
    let i = c.args.i in
    let u = usable _ _ l.alphabet_passes l.automaton_passes i n c.requires.0 c.requires.1 in
    let k = add-sub_cancel_left (2 + 6 * i + 2) n in
    let e = rw k at c.all_in.ensures in
    let from = rw k at c.state_at-from.ensures in
    one_shl (8 * c.state_at-from.result.0 + transition_byte a i 1) (omega (arith, from, states_small a n i u c.args.hole, u.target))
    ∙ ap (λ (x : ℕ). 2 ^ (8 * x + transition_byte a i 1)) from
    ∙ pair_there a n i u c.args.sets.now c.args.hole (sym e ∙ c.if-all_in.true)

pub returns : goal.returns
returns c =
    let l = c.args.linked.now in
    let n = length c.args.sets.now in
    let i = c.args.i in
    let u = usable _ _ l.alphabet_passes l.automaton_passes i n c.requires.0 c.requires.1 in
    let e = rw (add-sub_cancel_left (2 + 6 * i + 2) n) at c.all_in.ensures in
    pair_nowhere _ n i u c.args.sets.now c.args.hole (sym e ∙ c.if-all_in.false)
