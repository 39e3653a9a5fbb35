-- `lane_steps::step::targets_of` meets its contract: the 1 of each lane is moved to the target.
use mathlib.Core.Path.{◌≡◌, refl, ap, sym, ◌∙◌}
use mathlib.Core.Bool.{Bool, true, false, cond}
use mathlib.Core.List.{List}
use Prim.Native.Nat.{ℕ, ◌+◌, ◌*◌, ◌%◌, ◌^◌}
use native.Mathlib.Nat.{add-sub_cancel_left}
use native.Mathlib.Omega.{arith}
use lib.ListN.{length, get_or, get_or-eq_default, length-map}
use Rattle.terms.specs.Automaton.{all_in}
use Rattle.terms.specs.Relation.{matrix}
use Rattle.terms.specs.Sheet.{transition_byte}
use Rattle.transitions.specs.Step.{transition_with, leads}
use Rattle.transitions.proofs.Leads.{Usable, states_length, states_small, pair_there, pair_nowhere}
use Rattle.transitions.proofs.Checked.{usable}
use Rattle.blackboard_terms.specs.Step.{lane, lanes_at}
use Rattle.lane_steps.proofs.Lanes.{ones_shl}
use Rattle.lane_steps.proofs.step.targets_of.Goals as goal

-- the pair of a transition at a node with no hole
alone : (a : List ℕ) (n i : ℕ) → Usable a n i → (ms : List ℕ) (b : Bool) → all_in ms (transition_with a n i).children ≡ b
    → cond b (2 ^ transition_byte a i 1) 0 ≡ matrix (λ p q. leads (transition_byte a i 0) ms n p q (transition_with a n i))
alone a n i u ms true e =
    let states = (transition_with a n i).children in
    let none : get_or states n 0 ≡ 0 = get_or-eq_default states 0 (omega (arith, states_length a n i u)) in
    ap (λ (k : ℕ). 2 ^ k) (omega arith) ∙ pair_there a n i u ms n e
alone a n i u ms false e = pair_nowhere a n i u ms n e

pub slice_bounds-lanes_with-end : goal.slice_bounds-lanes_with-end
slice_bounds-lanes_with-end c =
    let l = c.args.linked.now in
    let u = usable _ _ l.alphabet_passes l.automaton_passes c.args.i _ c.requires.0 c.requires.1 in
    omega (arith, u.whole, u.rank)

pub bounds-linked-at : goal.bounds-linked-at
bounds-linked-at c =
    let l = c.args.linked.now in
    let u = usable _ _ l.alphabet_passes l.automaton_passes c.args.i _ c.requires.0 c.requires.1 in
    omega (arith, u.whole)

pub overflow_shl-result : goal.overflow_shl-result
overflow_shl-result c =
    let l = c.args.linked.now in
    let u = usable _ _ l.alphabet_passes l.automaton_passes c.args.i _ c.requires.0 c.requires.1 in
    omega (arith, u.target)

pub lanes_with-requires : goal.lanes_with-requires
lanes_with-requires c =
    let l = c.args.linked.now in
    let n = length c.args.children.now in
    let u = usable _ _ l.alphabet_passes l.automaton_passes c.args.i n c.requires.0 c.requires.1 in
    rw (add-sub_cancel_left (2 + 6 * c.args.i + 2) n) (sym (states_length _ n c.args.i u), states_small _ n c.args.i u)

pub returns : goal.returns
returns c p hp =
    let l = c.args.linked.now in
    let a = l.automaton.now in
    let ms = lanes_at p c.args.children.now in
    let n = length c.args.children.now in
    let i = c.args.i in
    let u = usable _ _ l.alphabet_passes l.automaton_passes i n c.requires.0 c.requires.1 in
    let states = (transition_with a n i).children in
    let e = rw (add-sub_cancel_left (2 + 6 * i + 2) n) at c.lanes_with.ensures in
    rw (length-map c.args.children.now (λ x. lane x p))
    (ap (λ (x : ℕ). lane (x * 2 ^ transition_byte a i 1 % 2 ^ 64) p) e ∙ ones_shl (λ k. all_in (lanes_at k c.args.children.now) states) (transition_byte a i 1) p u.target hp
    ∙ alone a n i u ms (all_in ms states) refl)
