-- A run of the old automaton is a run of the longer one; so no bit of an entry is lost.
use mathlib.Core.Path.{◌≡◌, ◌∙◌}
use mathlib.Core.Bool.{true}
use mathlib.Core.List.{List, [], ◌∷◌, ◌++◌}
use Prim.Native.Nat.{ℕ, ◌+◌, ◌*◌, ◌/◌, ◌%◌, ◌<◌}
use native.Mathlib.Omega.{arith}
use native.Mathlib.Decide.{dec_lt}
use lib.ListN.{length-append, get_or-append}
use Rattle.terms.specs.Tree.{Tree, Forest, node, none, more}
use Rattle.terms.specs.Context.{Context, hole, inside}
use Rattle.terms.specs.Automaton.{Transition, Small, In, Run, Runs, has}
use Rattle.terms.specs.Form.{Value, closed, context}
use Rattle.terms.specs.Relation.{RunsAt, RunAt, matrix, relation, entry_of}
use Rattle.terms.proofs.Test.{of_true}
use Rattle.terms.proofs.Automaton.Bits.{has_above, set_lt}
use Rattle.terms.proofs.Automaton.Entry.{entry_runs}
use Rattle.adding_terms.specs.Claims.{RunsKept}

-- every transition of δ stands in δ'
pub record Within (δ δ' : List Transition) : Type 0 where
  pub still : (τ : Transition) → In τ δ → In τ δ'

longer_in : (δ : List Transition) (τ σ : Transition) → In σ δ → In σ (δ ++ (τ ∷ []))
longer_in δ τ σ (i, l, e) =
    (i, omega (arith, length-append δ (τ ∷ [])), get_or-append δ (τ ∷ []) (record { terminal = 0; target = 0; children = [] }) i l ∙ e)

module _ {δ δ' : List Transition} (within : Within δ δ') where
  mutual
    run_more : (t : Tree) (q : ℕ) → Run δ t q → Run δ' t q
    run_more (node f ts) q (τ, i, a, b, r) = (τ, within.still τ i, a, b, runs-more ts τ.children r)

    runs-more : (ts : Forest) (qs : List ℕ) → Runs δ ts qs → Runs δ' ts qs
    runs-more none [] r = tt
    runs-more none (q ∷ qs) r = r
    runs-more (more t ts) [] r = r
    runs-more (more t ts) (q ∷ qs) (r, s) = (run_more t q r, runs-more ts qs s)

  around-more : (C D : ℕ → Type 0) → ((q : ℕ) → C q → D q) → (ls rs : Forest) (qs : List ℕ) → RunsAt δ C ls rs qs → RunsAt δ' D ls rs qs
  around-more C D g none rs [] r = r
  around-more C D g none rs (q ∷ qs) (r, s) = (g q r, runs-more rs qs s)
  around-more C D g (more t ts) rs [] r = r
  around-more C D g (more t ts) rs (q ∷ qs) (r, s) = (run_more t q r, around-more C D g ts rs qs s)

  run_at_more : (c : Context) (p q : ℕ) → RunAt δ c p q → RunAt δ' c p q
  run_at_more hole p q r = r
  run_at_more (inside f ls c rs) p q (τ, i, a, b, r) =
      (τ, within.still τ i, a, b, around-more (RunAt δ c p) (RunAt δ' c p) (λ m s. run_at_more c p m s) ls rs τ.children r)

pub runs-kept : (δ : List Transition) (τ : Transition) → RunsKept δ (δ ++ (τ ∷ []))
runs-kept δ τ =
    let within : Within δ (δ ++ (τ ∷ [])) = record { still = longer_in δ τ } in
    record { run = run_more within; run_at = run_at_more within }

-- every bit of an entry, by the runs that it stands for
module _ {δ δ' : List Transition} (small : Small δ) (small' : Small δ') (kept : RunsKept δ δ') where
  pub bit_kept : (v : Value) (k : ℕ) → has (entry_of δ v) k ≡ true → has (entry_of δ' v) k ≡ true
  unfolding entry_of relation matrix
  bit_kept (closed t) k e = ((entry_runs δ' small' (closed t)).0 k).1 (kept.run t k (((entry_runs δ small (closed t)).0 k).0 e))
  bit_kept (context c) k e = go (dec_lt k 64)
    where
      go : Dec (k < 64) → has (relation δ' c) k ≡ true
      go (yes l) =
          let p = k / 8 in
          let q = k % 8 in
          let s : 8 * p + q ≡ k = omega arith in
          let (_, back) = entry_runs δ' small' (context c) p q (omega arith) (omega arith) in
          let (there, _) = entry_runs δ small (context c) p q (omega arith) (omega arith) in
          rw s at (back (kept.run_at c p q (there (rw s e))))
      go (no l) = absurd (rw (has_above (relation δ c) 64 k (set_lt 64 _) (omega arith)) at (of_true (has (relation δ c) k) e))
