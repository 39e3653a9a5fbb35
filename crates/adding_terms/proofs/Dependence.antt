-- The test of the rules in order says which rules depend on a terminal.
use mathlib.Core.Logic.{◌↔◌, ◌⊎◌, inl, inr}
use mathlib.Core.Path.{◌≡◌, refl, ap}
use mathlib.Core.Bool.{Bool, true, false, ◌||◌}
use mathlib.Core.List.{List, []}
use Prim.Native.Nat.{ℕ, zero, suc, ◌<◌}
use native.Mathlib.Omega.{arith}
use lib.Dec.{T}
use lib.ListN.{length}
use Rattle.terms.specs.Test.{any}
use Rattle.terms.specs.Form.{Rule, whole, rule_at, Valid}
use Rattle.terms.proofs.Table.{entry-step}
use Rattle.terms.proofs.Test.{is_true, of_true, either, either_0, either_1, or_false}
use Rattle.adding_terms.specs.Dependence.{calls_of, has_terminal, Depends, itself, through, depends_of, depends_at}
use Rattle.adding_terms.proofs.Every.{Every, every_map, every_with, every-called, none_passes, called-passes, passes-called, any_same, fits_below}

module _ (f : ℕ) {alphabet : List ℕ} {rules : List Rule} (valid : Valid alphabet rules) where
  calls-below : (i : ℕ) → i < length rules → Every (λ j. j < i) (calls_of (rule_at rules i))
  calls-below i h = fits_below alphabet rules i (rule_at rules i) (valid.fits i h)

  depends_local : (i : ℕ) → i < length rules → (d e : ℕ → Bool) → ((j : ℕ) → j < i → d j ≡ e j)
      → depends_of f (rule_at rules i) d ≡ depends_of f (rule_at rules i) e
  depends_local i h d e same =
      ap (λ (b : Bool). has_terminal f (rule_at rules i) || b)
      (any_same d e (calls_of (rule_at rules i)) (every_map (λ j. j < i) (λ j. d j ≡ e j) same (calls_of (rule_at rules i)) (calls-below i h)))

  -- the test of rule i, from the tests of the rules that it calls
  depends_step : (i : ℕ) → i < length rules → depends_at f rules i ≡ depends_of f (rule_at rules i) (depends_at f rules)
  unfolding depends_at
  depends_step i h = entry-step (whole 0 []) false (depends_of f) rules (length rules) depends_local i h

  -- the same with the tests below rule i kept in any way
  pub depends_next : (i : ℕ) → i < length rules → (d : ℕ → Bool) → ((j : ℕ) → j < i → d j ≡ depends_at f rules j)
      → depends_of f (rule_at rules i) d ≡ depends_at f rules i
  depends_next i h d below = rw (depends_step i h) (depends_local i h d (depends_at f rules) below)

  -- a rule that does not depend on f does not have it, and calls none that depends
  pub free_of : (i : ℕ) → i < length rules → depends_at f rules i ≡ false
      → (has_terminal f (rule_at rules i) ≡ false) × Every (λ j. (j < i) × (depends_at f rules j ≡ false)) (calls_of (rule_at rules i))
  free_of i h e =
      let slots = calls_of (rule_at rules i) in
      let (b, n) = or_false (has_terminal f (rule_at rules i)) (any (depends_at f rules) slots) (rw (depends_step i h) at e) in
      (b, every_with (λ j. j < i) (λ j. depends_at f rules j ≡ false) (λ j. (j < i) × (depends_at f rules j ≡ false)) (λ j l m. (l, m)) slots (calls-below i h) (none_passes (depends_at f rules) slots n))

  depends_in : (i : ℕ) → Depends rules f i → T (depends_at f rules i)
  depends_in i (itself h b) = rw (depends_step i h) (either_0 (has_terminal f (rule_at rules i)) (any (depends_at f rules) (calls_of (rule_at rules i))) b)
  depends_in i (through {j = j} h c d) =
      let slots = calls_of (rule_at rules i) in
      rw (depends_step i h) (either_1 (has_terminal f (rule_at rules i)) (any (depends_at f rules) slots) (called-passes (depends_at f rules) slots j c (depends_in j d)))

  depends_out : (n i : ℕ) → i < n → i < length rules → T (depends_at f rules i) → Depends rules f i
  depends_out zero i l h t = absurd (omega arith)
  depends_out (suc n) i l h t =
      go (either (has_terminal f (rule_at rules i)) (any (depends_at f rules) (calls_of (rule_at rules i))) (rw (depends_step i h) at t)) (depends_out n)
    where
      go : T (has_terminal f (rule_at rules i)) ⊎ T (any (depends_at f rules) (calls_of (rule_at rules i)))
          → ((j : ℕ) → j < n → j < length rules → T (depends_at f rules j) → Depends rules f j) → Depends rules f i
      go (inl b) ih = itself h b
      go (inr a) ih =
          let slots = calls_of (rule_at rules i) in
          let (j, c, p) = passes-called (depends_at f rules) slots a in
          let m = every-called (λ k. k < i) slots (calls-below i h) j c in
          through h c (ih j (omega arith) (omega arith) p)

  -- the test agrees with the relation
  pub depends_iff : (i : ℕ) → i < length rules → (depends_at f rules i ≡ true) ↔ Depends rules f i
  depends_iff i h =
      (λ e. depends_out (suc i) i (omega arith) h (of_true (depends_at f rules i) e), λ d. is_true (depends_at f rules i) (depends_in i d))

  pub not_depends : (i : ℕ) → i < length rules → (Depends rules f i → ⊥) → depends_at f rules i ≡ false
  not_depends i h n = go (depends_at f rules i) refl
    where
      go : (b : Bool) → depends_at f rules i ≡ b → b ≡ false
      go true e = absurd (n ((depends_iff i h).0 e))
      go false e = refl

  pub depends_not : (i : ℕ) → i < length rules → depends_at f rules i ≡ false → Depends rules f i → ⊥
  depends_not i h e d = rw e at (of_true (depends_at f rules i) ((depends_iff i h).1 d))
