use mathlib.Core.Path.{◌≡◌, refl, ap, sym, ◌∙◌}
use mathlib.Core.Bool.{true, false, ◌&&◌}
use mathlib.Core.List.{List, [], ◌∷◌}
use Prim.Native.Nat.{ℕ, suc, ◌/◌, ◌%◌, ◌^◌}
use native.Mathlib.Omega.{arith}
use mathlib.Core.Logic.{inl, inr}
use borrow.Author.Rules.{rules}
use lib.Dec.{eqb}
use lib.ListN.{length}
use Rattle.terms.specs.Automaton.{bit, has, all_in}
use Rattle.transitions.proofs.step.all_in.Goals as goal

stops : (x q : ℕ) (xs qs : List ℕ) → x / 2 ^ q % 2 ≡ 0 → all_in (x ∷ xs) (q ∷ qs) ≡ false
unfolding all_in has bit
stops x q xs qs e = ap (λ (b : ℕ). eqb b 1 && all_in xs qs) e

goes_on : (x q : ℕ) (xs qs : List ℕ) → (x / 2 ^ q % 2 ≡ 0 → ⊥) → all_in (x ∷ xs) (q ∷ qs) ≡ all_in xs qs
unfolding all_in has bit
goes_on x q xs qs n =
    let e : x / 2 ^ q % 2 ≡ 1 = omega arith in
    ap (λ (b : ℕ). eqb b 1 && all_in xs qs) e

none_left : (xs qs : List ℕ) → length xs ≡ length qs → length xs ≡ 0 → all_in xs qs ≡ true
unfolding all_in
none_left [] [] s e = refl
none_left [] (q ∷ qs) s e = absurd (omega arith)
none_left (x ∷ xs) qs s e = absurd (omega arith)

pub returns-then-set-state-eq0 : goal.returns-then-set-state-eq0
returns-then-set-state-eq0 c =
    let (a, b) = c.in-Some.ensures.steps in
    sym (rw (a, b) at c.loop-set.invariant.asked ∙ stops _ _ _ _ c.if-set-state-eq0.true)

pub loop-set-preserved : goal.loop-set-preserved
loop-set-preserved c =
    let i = c.loop-set.invariant in
    let (a, b) = c.in-Some.ensures.steps in
    record {
      can_next = search rules;
      ends = search rules;
      same = omega (arith, ap length a, ap length b, i.same);
      small = λ j. rw b at (i.small (suc j));
      asked = rw (a, b) at i.asked ∙ goes_on _ _ _ _ c.if-set-state-eq0.false;
    }

pub returns : goal.returns
returns c =
    let i = c.loop-set.invariant in
    sym (i.asked ∙ none_left _ _ i.same (elim c.in-None.ensures.steps [ inl left ↦ left.1.0 | inr right ↦ i.same ∙ right.1.0 ]))
