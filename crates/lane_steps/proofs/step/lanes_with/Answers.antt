use mathlib.Core.Path.{◌≡◌, refl, ap, sym, ◌∙◌}
use mathlib.Core.Bool.{Bool, true, ◌&&◌, and-true, and_assoc, and_comm}
use mathlib.Core.List.{List, [], ◌∷◌}
use mathlib.Core.Logic.{inl, inr}
use Prim.Native.Nat.{ℕ, suc, ◌/◌, ◌^◌}
use native.Mathlib.Omega.{arith}
use borrow.Author.Rules.{rules}
use lib.ListN.{length}
use lib.Bits.{bit_and}
use lib.Dec.{eqb}
use Rattle.terms.specs.Automaton.{has, set_of, all_in}
use Rattle.terms.specs.Relation.{matrix}
use Rattle.terms.proofs.Automaton.Relation.{matrix_cong}
use Rattle.blackboard_terms.specs.Step.{lane, lanes_at}
use Rattle.lane_steps.proofs.Lanes.{ones_and}
use Rattle.lane_steps.proofs.step.lanes_with.Goals as goal

-- the first state is in its set, and the others in theirs
one_more : (before : Bool) (p x q : ℕ) (xs qs : List ℕ) → before && all_in (lanes_at p (x ∷ xs)) (q ∷ qs) ≡ (has (lane x p) q && before) && all_in (lanes_at p xs) qs
unfolding all_in
one_more before p x q xs qs =
    let there = has (lane x p) q in
    sym (and_assoc before there (all_in (lanes_at p xs) qs)) ∙ ap (λ (b : Bool). b && all_in (lanes_at p xs) qs) (and_comm before there)

none_left : (before : Bool) (p : ℕ) (xs qs : List ℕ) → length xs ≡ length qs → length xs ≡ 0 → before && all_in (lanes_at p xs) qs ≡ before
unfolding all_in
none_left before p [] [] s e = and-true before
none_left before p [] (q ∷ qs) s e = absurd (omega arith)
none_left before p (x ∷ xs) qs s e = absurd (omega arith)

pub loop-child-init : goal.loop-child-init
unfolding matrix set_of
loop-child-init c = record {
  can_next = search rules;
  ends = search rules;
  same = search rules;
  small = search rules;
  so_far = λ p. true;
  are = refl;
  asked = λ p. search rules;
}

pub loop-child-preserved : goal.loop-child-preserved
loop-child-preserved c =
    let i = c.loop-child.invariant in
    let (a, b) = c.in-Some.ensures.steps in
    let x = c.in-Some.child.now in
    let q = c.in-Some.state.now in
    record {
      can_next = search rules;
      ends = search rules;
      same = omega (arith, ap length a, ap length b, i.same);
      small = λ j. rw b at (i.small (suc j));
      so_far = λ p. has (lane x p) q && i.so_far p;
      are = ap (bit_and (x / 2 ^ q)) i.are ∙ ones_and x q i.so_far (rw b at (i.small 0));
      asked = λ p. rw (a, b) at (i.asked p) ∙ one_more (i.so_far p) p x q _ _;
    }

pub returns : goal.returns
returns c =
    let i = c.loop-child.invariant in
    let end : length c.loop-child.child-iterator.a.rest.now ≡ 0 = elim c.in-None.ensures.steps [ inl left ↦ left.1.0 | inr right ↦ i.same ∙ right.1.0 ] in
    i.are ∙ matrix_cong _ _ (λ p q hp hq. ap (λ (b : Bool). eqb q 0 && b) (sym (i.asked p ∙ none_left (i.so_far p) p _ _ i.same end)))
