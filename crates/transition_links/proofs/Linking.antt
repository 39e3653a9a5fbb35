-- The links of an automaton's transitions, made from the last transition to the first.
use mathlib.Core.Path.{◌≡◌, refl, ap, sym, ◌∙◌}
use mathlib.Core.List.{List}
use Prim.Native.Nat.{ℕ, ◌+◌, ◌≤◌, ◌<◌}
use native.Nat.{ℕᴺ_discrete}
use native.Mathlib.Decide.{dec_lt}
use native.Mathlib.Omega.{arith}
use lib.ListN.{length, get_or, set, length-set, replicate, get_or-replicate}
use lib.Seq.{get_or-set_same, get_or-set_other}
use Rattle.terms.specs.Sheet.{transition_count, transition_byte}
use Rattle.transition_links.specs.Links.{First, heads}

-- the transitions from i on are linked
pub record LinkedFrom (a : List ℕ) (i : ℕ) (links : List ℕ) : Type 0 where
  pub whole : length links ≡ 511
  pub next : (k : ℕ) → i ≤ k → k < transition_count a → First a (transition_byte a k 0) (k + 1) (get_or links k 0)
  pub head : (f : ℕ) → f < 256 → First a f i (get_or links (heads + f) 0)

module _ (a links : List ℕ) (i f : ℕ) (is : transition_byte a i 0 ≡ f) (hi : i < transition_count a) (few : transition_count a ≤ 255) (hf : f < 256) where
  -- the links with transition i in front of those of its terminal
  unfoldable pub linked : List ℕ
  linked = set (set links i (get_or links (heads + f) 0)) (heads + f) i

  same_first : First a f i i
  same_first = record { from = omega arith; within = omega arith; none = λ k h l e. absurd (omega arith); here = λ h. is }

  other_first : (g j : ℕ) → (g ≡ f → ⊥) → First a g (i + 1) j → First a g i j
  other_first g j n h = record {
    from = omega (arith, h.from);
    within = h.within;
    none = λ k l m e. skipped k l m e (dec_lt i k);
    here = h.here;
  }
    where
      skipped : (k : ℕ) → i ≤ k → k < j → transition_byte a k 0 ≡ g → Dec (i < k) → ⊥
      skipped k l m e (yes d) = h.none k (omega arith) m e
      skipped k l m e (no d) =
          let s : i ≡ k = omega arith in
          n (sym e ∙ ap (λ (x : ℕ). transition_byte a x 0) (sym s) ∙ is)

  module _ (h : LinkedFrom a (i + 1) links) where
    next_more : (k : ℕ) → i ≤ k → k < transition_count a → Dec (i < k) → First a (transition_byte a k 0) (k + 1) (get_or linked k 0)
    unfolding linked
    next_more k l m (yes d) = rw (get_or-set_other _ (heads + f) k i 0 (λ e. omega arith), get_or-set_other links i k _ 0 (λ e. omega arith)) (h.next k (omega arith) m)
    next_more k l m (no d) =
        let s : k ≡ i = omega arith in
        rw (get_or-set_other _ (heads + f) k i 0 (λ e. omega arith), s, get_or-set_same links i (get_or links (heads + f) 0) 0 (omega (arith, h.whole)), is)
        (h.head f hf)

    head_more : (g : ℕ) → g < 256 → Dec (g ≡ f) → First a g i (get_or linked (heads + g) 0)
    unfolding linked
    head_more g l (yes e) =
        let long : heads + f < length (set links i (get_or links (heads + f) 0)) = simp length-set (omega (arith, h.whole)) in
        rw (e, get_or-set_same (set links i (get_or links (heads + f) 0)) (heads + f) i 0 long) same_first
    head_more g l (no n) =
        rw (get_or-set_other _ (heads + f) (heads + g) i 0 (λ e. n (omega arith)), get_or-set_other links i (heads + g) _ 0 (λ e. omega arith))
        (other_first g (get_or links (heads + g) 0) n (h.head g l))

    pub linked-more : LinkedFrom a i linked
    unfolding linked
    linked-more = record {
      whole = simp length-set h.whole;
      next = λ k l m. next_more k l m (dec_lt i k);
      head = λ g l. head_more g l (ℕᴺ_discrete g f);
    }

pub none-linked : (a : List ℕ) → LinkedFrom a (transition_count a) (replicate 511 (transition_count a))
none-linked a = record {
  whole = refl;
  next = λ k h l. absurd (omega arith);
  head = λ f h. (rw (get_or-replicate 511 (heads + f) (transition_count a) 0 (omega arith))
      (record { from = omega arith; within = omega arith; none = λ k l m e. absurd (omega arith); here = λ l. absurd (omega arith) }));
}
