-- Transitions that lead from a state at the hole of a node to a state of the node.
use mathlib.Core.Path.{◌≡◌, sym, ◌∙◌}
use mathlib.Core.Bool.{Bool, true, false, ◌&&◌, and-true, and-false}
use mathlib.Core.List.{List}
use Prim.Native.Nat.{ℕ, ◌+◌, ◌*◌, ◌^◌, ◌≤◌, ◌<◌}
use native.Mathlib.Decide.{dec_lt}
use native.Mathlib.Omega.{arith}
use lib.Dec.{eqb, eqb_refl}
use lib.ListN.{length, get_or, take, drop, length-drop, get_or-eq_default}
use lib.Seq.{get_or-take, get_or-drop, length-take-le}
use borrow.Author.Tests.{ne_eqb}
use Rattle.terms.specs.Test.{some}
use Rattle.terms.specs.Automaton.{Transition, all_in, fires}
use Rattle.terms.specs.Relation.{matrix}
use Rattle.terms.specs.Sheet.{transition_byte}
use Rattle.terms.proofs.Test.{is_true}
use Rattle.terms.proofs.Automaton.Relation.{matrix_cong}
use Rattle.transition_links.specs.Links.{First}
use Rattle.transitions.specs.Step.{transition_with, leads}
use Rattle.relations.proofs.Laws.{some_gap}
use Rattle.relations.proofs.Matrix.{no_pair, one_pair}

-- transition i stands in the bytes, and its target and n child states are below 8
pub record Usable (a : List ℕ) (n i : ℕ) : Type 0 where
  pub whole : 8 + 6 * i ≤ length a
  pub rank : n ≤ 4
  pub target : transition_byte a i 1 < 8
  pub children : (j : ℕ) → j < n → transition_byte a i (2 + j) < 8

-- a transition of the node's terminal leads by its target and the state at the hole, where its child states are in the sets
leads-there : (ms : List ℕ) (hole p q : ℕ) (τ : Transition) → all_in ms τ.children ≡ true
    → leads τ.terminal ms hole p q τ ≡ eqb τ.target q && eqb (get_or τ.children hole 0) p
unfolding fires
leads-there ms hole p q τ e = rw (e, is_true (eqb τ.terminal τ.terminal) (eqb_refl τ.terminal), and-true (eqb τ.target q))

leads_nowhere : (ms : List ℕ) (hole p q : ℕ) (τ : Transition) → all_in ms τ.children ≡ false → leads τ.terminal ms hole p q τ ≡ false
unfolding fires
leads_nowhere ms hole p q τ e = rw (e, is_true (eqb τ.terminal τ.terminal) (eqb_refl τ.terminal), and-false (eqb τ.target q))

-- the child states of a transition are as many as asked, and below 8
module _ (a : List ℕ) (n i : ℕ) (u : Usable a n i) where
  abbrev states : List ℕ
  states = take n (drop (2 + 6 * i + 2) a)

  pub states_length : length states ≡ n
  states_length = length-take-le n (drop (2 + 6 * i + 2) a) (simp length-drop (omega (arith, u.whole, u.rank)))

  pub states_small : (j : ℕ) → get_or states j 0 < 8
  states_small j = go (dec_lt j n)
    where
      go : Dec (j < n) → get_or states j 0 < 8
      go (yes h) =
          let e : 2 + 6 * i + 2 + j ≡ 2 + 6 * i + (2 + j) = omega arith in
          rw (get_or-take n (drop (2 + 6 * i + 2) a) j 0 h, get_or-drop (2 + 6 * i + 2) a j 0, e) (u.children j h)
      go (no h) =
          let l : length states ≤ j = omega (arith, states_length) in
          rw (get_or-eq_default states 0 l) (omega arith)

  -- the pair of a transition of the node's terminal, and no pair where a child state is not in its set
  module _ (ms : List ℕ) (hole : ℕ) where
    abbrev pairs : ℕ → ℕ → Bool
    pairs p q = leads (transition_byte a i 0) ms hole p q (transition_with a n i)

    pub pair_there : all_in ms states ≡ true → 2 ^ (8 * get_or states hole 0 + transition_byte a i 1) ≡ matrix pairs
    pair_there e =
        one_pair (get_or states hole 0) (transition_byte a i 1) (states_small hole) u.target
        ∙ matrix_cong (λ p q. eqb (transition_byte a i 1) q && eqb (get_or states hole 0) p) pairs
        (λ p q hp hq. sym (leads-there ms hole p q (transition_with a n i) e))

    pub pair_nowhere : all_in ms states ≡ false → 0 ≡ matrix pairs
    pair_nowhere e = no_pair ∙ matrix_cong (λ p q. false) pairs (λ p q hp hq. sym (leads_nowhere ms hole p q (transition_with a n i) e))

-- a transition of another terminal leads nowhere
pub leads_other : (f : ℕ) (ms : List ℕ) (hole p q : ℕ) (τ : Transition) → (τ.terminal ≡ f → ⊥) → leads f ms hole p q τ ≡ false
unfolding fires
leads_other f ms hole p q τ n = rw (ne_eqb τ.terminal f n)

-- between i and the first transition of terminal f from i on, nothing is found
pub pairs_gap : (a ms : List ℕ) (f hole i j : ℕ) → First a f i j
    → matrix (λ p q. some i (λ k. leads f ms hole p q (transition_with a (length ms) k))) ≡ matrix (λ p q. some j (λ k. leads f ms hole p q (transition_with a (length ms) k)))
pairs_gap a ms f hole i j h =
    let at : ℕ → ℕ → ℕ → Bool = λ p q k. leads f ms hole p q (transition_with a (length ms) k) in
    matrix_cong (λ p q. some i (at p q)) (λ p q. some j (at p q))
    (λ p q hp hq. some_gap i j (at p q) h.from (λ k l m. leads_other f ms hole p q (transition_with a (length ms) k) (h.none k l m)))
