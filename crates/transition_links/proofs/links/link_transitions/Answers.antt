-- `transition_links::links::link_transitions` meets its contract: each transition is put in front of those of its terminal.
use mathlib.Core.Path.{◌≡◌, ap, subst}
use Prim.Native.Nat.{ℕ, ◌+◌, ◌-◌, ◌*◌}
use native.Mathlib.Omega.{arith}
use lib.ListN.{get_or}
use Rattle.terms.specs.Sheet.{transition_count}
use Rattle.transition_links.proofs.Linking.{LinkedFrom, linked, linked-more, none-linked}
use Rattle.transition_links.proofs.links.link_transitions.Goals as goal

pub overflow_cast-links : goal.overflow_cast-links
unfolding transition_count
overflow_cast-links c = omega arith

pub loop-i-init : goal.loop-i-init
unfolding transition_count
loop-i-init c = none-linked c.args.automaton.now

pub loop-i-preserved : goal.loop-i-preserved
unfolding linked transition_count
loop-i-preserved c =
    let a = c.args.automaton.now in
    let i = c.loop-i.i - 1 in
    let e : c.loop-i.i ≡ i + 1 = omega arith in
    let is : 2 + 6 * i + 0 ≡ 2 + 6 * i = omega arith in
    linked-more a c.loop-i.links i (get_or a (2 + 6 * i) 0) (ap (λ (n : ℕ). get_or a n 0) is) (omega arith) c.requires.1
    (omega (arith, c.type_inv.automaton (2 + 6 * i))) (subst (λ (n : ℕ). LinkedFrom a n c.loop-i.links) e c.loop-i.invariant)
