-- A rule that does not depend on the new transition's terminal has the same relation for both automata; so the old relations are carried over.
use mathlib.Core.Path.{◌≡◌, refl, sym, ap, ◌∙◌}
use mathlib.Core.Bool.{Bool, true, false, cond, ◌&&◌, ◌||◌}
use mathlib.Core.List.{List, [], ◌∷◌, ◌++◌}
use Prim.Native.Nat.{ℕ, zero, suc, ◌<◌}
use native.Mathlib.Omega.{arith}
use lib.Dec.{eqb}
use lib.ListN.{length, get_or}
use borrow.Author.Tests.{eqb-false, ne_eqb}
use Rattle.terms.specs.Test.{any}
use Rattle.terms.specs.Automaton.{Transition, Small, all_in, fires, step}
use Rattle.terms.specs.Form.{Rule, whole, pierced, filled, composed, rule_at, Valid}
use Rattle.terms.specs.Relation.{relation_of, relation_at}
use Rattle.terms.proofs.Automaton.Bits.{set_cong}
use Rattle.terms.proofs.Automaton.Entry.{relation-next}
use Rattle.adding_terms.specs.Dependence.{calls_of, has_terminal, depends_at}
use Rattle.adding_terms.proofs.Every.{every_map}
use Rattle.adding_terms.proofs.Dependence.{free_of}
use Rattle.adding_terms.proofs.Redone.{SameSteps, relation-same, ends, redone_only}

any-more : (p : Transition → Bool) (δ : List Transition) (τ : Transition) → p τ ≡ false → any p (δ ++ (τ ∷ [])) ≡ any p δ
unfolding any
any-more p [] τ e = rw e
any-more p (σ ∷ δ) τ e = ap (λ (b : Bool). p σ || b) (any-more p δ τ e)

-- a transition for another terminal adds no state
step-more : (δ : List Transition) (τ : Transition) (g : ℕ) → eqb g τ.terminal ≡ false → (ms : List ℕ) → step (δ ++ (τ ∷ [])) g ms ≡ step δ g ms
unfolding step fires
step-more δ τ g e ms =
    let other : eqb τ.terminal g ≡ false = ne_eqb τ.terminal g (λ s. eqb-false g τ.terminal e (sym s)) in
    set_cong 8 (λ q. any (fires g ms q) (δ ++ (τ ∷ []))) (λ q. any (fires g ms q) δ)
    (λ q h. any-more (fires g ms q) δ τ (ap (λ (b : Bool). b && (eqb τ.target q && all_in ms τ.children)) other))

rule-steps : (δ : List Transition) (τ : Transition) (r : Rule) → has_terminal τ.terminal r ≡ false → SameSteps (δ ++ (τ ∷ [])) δ r
rule-steps δ τ (whole g slots) e = step-more δ τ g e
rule-steps δ τ (pierced g ls rs) e = step-more δ τ g e
rule-steps δ τ (filled b c) e = tt
rule-steps δ τ (composed b c) e = tt

module _ (δ : List Transition) (τ : Transition) (small : Small δ) (small' : Small (δ ++ (τ ∷ []))) {alphabet : List ℕ} {rules : List Rule} (valid : Valid alphabet rules) where
  abbrev δ' : List Transition
  δ' = δ ++ (τ ∷ [])

  abbrev free : ℕ → Type 0
  free i = depends_at τ.terminal rules i ≡ false

  same-below : (n i : ℕ) → i < n → i < length rules → free i → relation_at δ' rules i ≡ relation_at δ rules i
  same-below zero i l h e = absurd (omega arith)
  same-below (suc n) i l h e =
      let r = rule_at rules i in
      let (own, calls) = free_of τ.terminal valid i h e in
      sym (relation-next δ' small' valid i h (relation_at δ' rules) (λ j m. refl))
      ∙ relation-same δ' δ r (rule-steps δ τ r own) (relation_at δ' rules) (relation_at δ rules)
      (every_map (λ j. (j < i) × free j) (λ j. relation_at δ' rules j ≡ relation_at δ rules j) (λ j p. same-below n j (omega (arith, p.0)) (omega (arith, p.0)) p.1) (calls_of r) calls)
      ∙ relation-next δ small valid i h (relation_at δ rules) (λ j m. refl)

  -- the relation of a rule that does not depend on the terminal is the same for both automata
  same_relation : (i : ℕ) → i < length rules → free i → relation_at δ' rules i ≡ relation_at δ rules i
  same_relation i h e = same-below (suc i) i (omega arith) h e

  -- where the slice held the old relations, it ends with the new ones
  module _ (held : List ℕ) (old : (i : ℕ) → i < length rules → get_or held i 0 ≡ relation_at δ rules i) where
    made : (i : ℕ) → i < length rules → (b : Bool) → depends_at τ.terminal rules i ≡ b
        → relation_at δ' rules i ≡ cond b (relation_of δ' (rule_at rules i) (relation_at δ' rules)) (get_or held i 0)
    made i h true e = sym (relation-next δ' small' valid i h (relation_at δ' rules) (λ j m. refl))
    made i h false e = same_relation i h e ∙ sym (old i h)

    pub entry-fresh : (i : ℕ) → i < length rules → ends δ' τ.terminal valid held i ≡ relation_at δ' rules i
    entry-fresh i h = sym (redone_only δ' τ.terminal valid held (relation_at δ' rules) (λ j m. made j m (depends_at τ.terminal rules j) refl) i h)
