-- The runs on a term with trees in its open places: runs on those trees, and an open run on the term that enters where they end.
use mathlib.Core.Path.{◌≡◌, refl, sym, ◌∙◌, subst}
use mathlib.Core.Bool.{cond}
use mathlib.Core.List.{List, [], ◌∷◌}
use Prim.Native.Nat.{ℕ, zero, suc, ◌+◌, ◌≤◌, ◌<◌}
use native.Mathlib.Omega.{arith}
use lib.Dec.{ltb}
use borrow.Author.Tests.{lt-ltb, le-ltb}
use Rattle.terms.specs.Tree.{Forest, pick}
use Rattle.terms.specs.Automaton.{Transition, In, Run, Runs}
use Rattle.terms.proofs.Automaton.Step.{steps_map}
use Rattle.blackboard_terms.proofs.Term.{Term, Terms, place, symbol, empty, front, closed, closed_all, RunOpen, RunsOpen, over_places, over_all, only, occurs, Linear, Present, Fits, AllFit}
use Rattle.blackboard_terms.proofs.Place.{present-place, only_eq}

-- a run asks about present parameters alone
module _ (δ : List Transition) (ps rs : ℕ → ℕ) where
  mutual
    unfolding over_places over_all

    pub run_agree : (t : Term) (q : ℕ) → ((j : ℕ) → Present j t → ps j ≡ rs j) → RunOpen δ ps t q → RunOpen δ rs t q
    run_agree (place j) q e r = sym (e j (present-place j)) ∙ r
    run_agree (symbol f ts) q e r = steps_map δ f q (RunsOpen δ ps ts) (RunsOpen δ rs ts) (λ qs k. runs_agree ts qs e k) r

    runs_agree : (ts : Terms) (qs : List ℕ) → ((j : ℕ) → 0 < over_all (only j 1) ts → ps j ≡ rs j) → RunsOpen δ ps ts qs → RunsOpen δ rs ts qs
    runs_agree empty [] e r = tt
    runs_agree empty (q ∷ qs) e r = r
    runs_agree (front t ts) [] e r = r
    runs_agree (front t ts) (q ∷ qs) e (r, s) = (run_agree t q (λ j h. e j (omega arith)) r, runs_agree ts qs (λ j h. e j (omega arith)) s)

-- states of present parameters from one choice, the others from another
abbrev merged : Term → (ℕ → ℕ) → (ℕ → ℕ) → ℕ → ℕ
merged t ss rs j = cond (ltb 0 (occurs j t)) (ss j) (rs j)

merged_here : (t : Term) (ss rs : ℕ → ℕ) (j : ℕ) → Present j t → merged t ss rs j ≡ ss j
merged_here t ss rs j h = rw (lt-ltb 0 (occurs j t) h)

merged_else : (t : Term) (ss rs : ℕ → ℕ) (j : ℕ) → occurs j t ≤ 0 → merged t ss rs j ≡ rs j
merged_else t ss rs j h = rw (le-ltb 0 (occurs j t) h)

-- the transitions δ' are those of δ, and others that are of no terminal
pub record Extends (δ δ' : List Transition) : Type 0 where
  pub old : (τ : Transition) → In τ δ → In τ δ'
  pub new : (τ : Transition) → In τ δ' → τ.terminal < 0x20 → In τ δ

module _ (δ δ' : List Transition) (x : Extends δ δ') (args : Forest) where
  -- runs on the trees that give their roots the states ss, where the term has a place for them
  abbrev Entered : Term → (ℕ → ℕ) → Type 0
  Entered t ss = (j : ℕ) → Present j t → Run δ' (pick args j) (ss j)

  abbrev EnteredAll : Terms → (ℕ → ℕ) → Type 0
  EnteredAll ts ss = (j : ℕ) → 0 < over_all (only j 1) ts → Run δ' (pick args j) (ss j)

  mutual
    unfolding over_places over_all closed closed_all

    pub in_run : (t : Term) (q : ℕ) (ss : ℕ → ℕ) → Entered t ss → RunOpen δ ss t q → Run δ' (closed args t) q
    in_run (place j) q ss e r = subst (Run δ' (pick args j)) r (e j (present-place j))
    in_run (symbol f ts) q ss e (τ, i, a, b, r) = (τ, x.old τ i, a, b, in_runs ts τ.children ss e r)

    in_runs : (ts : Terms) (qs : List ℕ) (ss : ℕ → ℕ) → EnteredAll ts ss → RunsOpen δ ss ts qs → Runs δ' (closed_all args ts) qs
    in_runs empty [] ss e r = tt
    in_runs empty (q ∷ qs) ss e r = r
    in_runs (front t ts) [] ss e r = r
    in_runs (front t ts) (q ∷ qs) ss e (r, s) = (in_run t q ss (λ j h. e j (omega arith)) r, in_runs ts qs ss (λ j h. e j (omega arith)) s)

  -- two choices as one, where no parameter stands on both sides
  split_runs : (t : Term) (ts : Terms) (q : ℕ) (qs : List ℕ) → ((j : ℕ) → over_all (only j 1) (front t ts) ≤ 1)
      → (ss : ℕ → ℕ) × Entered t ss × RunOpen δ ss t q → (ss : ℕ → ℕ) × EnteredAll ts ss × RunsOpen δ ss ts qs
      → (ss : ℕ → ℕ) × EnteredAll (front t ts) ss × RunsOpen δ ss (front t ts) (q ∷ qs)
  unfolding over_all
  split_runs t ts q qs l (ss, e, r) (rs, d, s) = (
    merged t ss rs,
    λ j h. go j (occurs j t) refl h,
    (
      run_agree δ ss (merged t ss rs) t q (λ j h. sym (merged_here t ss rs j h)) r,
      runs_agree δ rs (merged t ss rs) ts qs (λ j h. sym (merged_else t ss rs j (omega (arith, l j)))) s,
    ),
  )
    where
      go : (j n : ℕ) → occurs j t ≡ n → 0 < occurs j t + over_all (only j 1) ts → Run δ' (pick args j) (merged t ss rs j)
      go j zero k h = rw (merged_else t ss rs j (omega arith)) (d j (omega arith))
      go j (suc n) k h = rw (merged_here t ss rs j (omega arith)) (e j (omega arith))

  mutual
    unfolding over_places over_all closed closed_all

    pub out-run : (n : ℕ) (t : Term) (q : ℕ) → Fits n t → Linear t → Run δ' (closed args t) q → (ss : ℕ → ℕ) × Entered t ss × RunOpen δ ss t q
    out-run n (place j) q p l r = (λ k. q, λ k h. rw (only_eq k j h) r, refl)
    out-run n (symbol f ts) q p l (τ, i, a, b, r) =
        let (ss, e, s) = out-runs n ts τ.children p.1 l r in
        (ss, e, (τ, x.new τ i (rw a p.0), a, b, s))

    out-runs : (n : ℕ) (ts : Terms) (qs : List ℕ) → AllFit n ts → ((j : ℕ) → over_all (only j 1) ts ≤ 1) → Runs δ' (closed_all args ts) qs
        → (ss : ℕ → ℕ) × EnteredAll ts ss × RunsOpen δ ss ts qs
    out-runs n empty [] p l r = (λ k. 0, λ j h. absurd (omega arith), tt)
    out-runs n empty (q ∷ qs) p l r = absurd r
    out-runs n (front t ts) [] p l r = absurd r
    out-runs n (front t ts) (q ∷ qs) p l (r, s) =
        split_runs t ts q qs l (out-run n t q p.0 (λ j. omega (arith, l j)) r) (out-runs n ts qs p.1 (λ j. omega (arith, l j)) s)
