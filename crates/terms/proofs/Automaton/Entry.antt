-- The entry of a rule of a valid form: what runs on that say which the rule derives, and made in one step from the entries of lower rules.
use mathlib.Core.Path.{◌≡◌, refl, sym, ap, ap₂, ◌∙◌}
use mathlib.Core.List.{List, [], ◌∷◌, ◌++◌}
use Prim.Native.Nat.{ℕ, ◌<◌, ◌^◌, ◌%◌}
use native.Mathlib.Omega.{arith}
use native.Mathlib.Nat.{mod-eq_of_lt}
use lib.ListN.{length}
use Rattle.terms.specs.Automaton.{Transition, Small, has, step, mask, masks, through}
use Rattle.terms.specs.Form.{Rule, whole, pierced, filled, composed, Value, closed, context, tree_in, context_in, trees_at, value_of, value_at, rule_at, holes, Has, Slots, Fits, Valid}
use Rattle.terms.specs.Relation.{matrix, relation, entry_of, relation_at, compose_bits, apply_bits, states_at, relation_of}
use Rattle.terms.specs.Runs.{EntryRuns}
use Rattle.terms.proofs.Form.Value.{value-step, derives-tree, derives-context}
use Rattle.terms.proofs.Automaton.Mask.{mask_lt, mask_iff}
use Rattle.terms.proofs.Automaton.Relation.{relation_iff, mask-apply, relation-compose}

-- the entry says which states runs end in
pub entry_runs : (δ : List Transition) → Small δ → (v : Value) → EntryRuns δ v (entry_of δ v)
unfolding entry_of
entry_runs δ small (closed t) = (mask_iff δ small t, mask_lt δ t)
entry_runs δ small (context c) = relation_iff δ small c

module _ (δ : List Transition) {alphabet : List ℕ} {rules : List Rule} (valid : Valid alphabet rules) (i : ℕ) (h : i < length rules) where
  -- the entry of a rule of rank 0 is its tree's mask
  pub entry_closed : holes (rule_at rules i) ≡ 0 → relation_at δ rules i ≡ mask δ (tree_in (value_at rules i))
  unfolding entry_of
  entry_closed rank = ap (entry_of δ) (derives-tree valid i h rank)

  pub entry-context : holes (rule_at rules i) ≡ 1 → relation_at δ rules i ≡ relation δ (context_in (value_at rules i))
  unfolding entry_of
  entry-context rank = ap (entry_of δ) (derives-context valid i h rank)

module _ (δ : List Transition) (small : Small δ) {alphabet : List ℕ} {rules : List Rule} (valid : Valid alphabet rules) (i : ℕ) (h : i < length rules) (w : ℕ → ℕ) (below : (j : ℕ) → j < i → w j ≡ relation_at δ rules j) where
  abbrev value : ℕ → Value
  value = value_at rules

  tree_at : (a : ℕ) → Has rules i 0 a → w a ≡ mask δ (tree_in (value a))
  tree_at a p = below a p.below ∙ entry_closed δ valid a (omega (arith, p.below)) p.rank

  context_at_lem : (b : ℕ) → Has rules i 1 b → w b ≡ relation δ (context_in (value b))
  context_at_lem b p = below b p.below ∙ entry-context δ valid b (omega (arith, p.below)) p.rank

  states_masks : (slots : List ℕ) → Slots rules i slots → states_at w slots ≡ masks δ (trees_at value slots)
  unfolding states_at masks trees_at
  states_masks [] p = refl
  states_masks (a ∷ slots) (p, ps) = ap₂ ◌∷◌ (ap (λ (x : ℕ). x % 256) (tree_at a p) ∙ mod-eq_of_lt (mask_lt δ (tree_in (value a)))) (states_masks slots ps)

  step_means : (r : Rule) → Fits alphabet rules i r → relation_of δ r w ≡ entry_of δ (value_of r value)
  unfolding value_of relation_of entry_of mask relation through
  step_means (whole f slots) p = ap (step δ f) (states_masks slots p.0)
  step_means (pierced f ls rs) p =
      ap₂ (λ (xs ys : List ℕ). matrix (λ p q. has (step δ f (xs ++ (2 ^ p ∷ ys))) q)) (states_masks ls p.0) (states_masks rs p.1)
  step_means (filled b c) p = ap₂ apply_bits (context_at_lem b p.0) (tree_at c p.1) ∙ sym (mask-apply δ small (context_in (value b)) (tree_in (value c)))
  step_means (composed b c) p =
      ap₂ compose_bits (context_at_lem b p.0) (context_at_lem c p.1) ∙ sym (relation-compose δ small (context_in (value b)) (context_in (value c)))

  -- the step applied to the entries below rule i, however they are kept, is the entry of rule i
  pub relation-next : relation_of δ (rule_at rules i) w ≡ relation_at δ rules i
  relation-next = step_means (rule_at rules i) (valid.fits i h) ∙ ap (entry_of δ) (sym (value-step valid i h))
