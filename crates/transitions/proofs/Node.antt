-- The pairs of a walk are the step of a node through the automaton's transitions, and the entry of a form's rule.
use mathlib.Core.Path.{◌≡◌, refl, ap, sym, ◌∙◌}
use mathlib.Core.Bool.{Bool, true, false, ◌&&◌, and-true, and-false, and_assoc}
use mathlib.Core.List.{List, [], ◌∷◌, ◌++◌}
use Prim.Native.Nat.{ℕ, zero, suc, ◌+◌, ◌*◌, ◌%◌, ◌^◌, ◌≤◌, ◌<◌}
use native.Nat.{ℕᴺ_discrete}
use native.Mathlib.Omega.{arith}
use lib.Dec.{T, eqb, eqb_refl}
use lib.ListN.{length, get_or, take, drop, set, get_or-eq_default, length-set}
use lib.Seq.{set_at}
use borrow.Author.Tests.{ne_eqb}
use Rattle.terms.specs.Test.{any, some, tabulate}
use Rattle.terms.specs.Grammar.{terminal_rank}
use Rattle.terms.specs.Automaton.{Transition, has, set_of, all_in, fires, step}
use Rattle.terms.specs.Relation.{matrix, related, states_at, relation_of}
use Rattle.terms.specs.Form.{whole, pierced}
use Rattle.terms.specs.Sheet.{transition_count, transition_byte, transition_at, transitions_of}
use Rattle.terms.proofs.Test.{is_true, of_true, both_1, some_cong}
use Rattle.terms.proofs.Automaton.Bits.{has-set, set_cong, power_has}
use Rattle.terms.proofs.Automaton.Step.{fires-out}
use Rattle.terms.proofs.Automaton.Relation.{matrix-has, matrix_cong}
use Rattle.transitions.specs.Step.{transition_with, leads, pairs_of, closed_step, open_step}
use Rattle.relations.proofs.Laws.{has-low, all_states, any-tabulate, any_cong, tabulate_part}
use Rattle.relations.proofs.Matrix.{set-bits, power_has_is}
use Rattle.transitions.proofs.Leads.{Usable, leads_other}

-- The transitions of the automaton, and those of the walk.

-- each transition of a terminal can be used with n child states
abbrev pub AllUsable : List ℕ → ℕ → ℕ → Type 0
AllUsable a f n = (i : ℕ) → i < transition_count a → transition_byte a i 0 ≡ f → Usable a n i

module _ (alphabet a ms : List ℕ) (f : ℕ) (rank : terminal_rank alphabet f ≡ length ms) (usable : AllUsable a f (length ms)) (hole : ℕ) where
  same_transition : (p q i : ℕ) → i < transition_count a → leads f ms hole p q (transition_at alphabet a i) ≡ leads f ms hole p q (transition_with a (length ms) i)
  unfolding transition_at
  same_transition p q i h = go (ℕᴺ_discrete (transition_byte a i 0) f)
    where
      go : Dec (transition_byte a i 0 ≡ f) → leads f ms hole p q (transition_at alphabet a i) ≡ leads f ms hole p q (transition_with a (length ms) i)
      go (yes e) =
          let u = usable i h e in
          let children : tabulate (terminal_rank alphabet (transition_byte a i 0)) (λ j. transition_byte a i (2 + j)) ≡ take (length ms) (drop (2 + 6 * i + 2) a) =
          ap (λ (n : ℕ). tabulate n (λ j. transition_byte a i (2 + j))) (ap (terminal_rank alphabet) e ∙ rank)
          ∙ tabulate_part (length ms) (2 + 6 * i + 2) a (λ j. transition_byte a i (2 + j)) (omega (arith, u.whole, u.rank)) (λ j k. ap (λ (m : ℕ). get_or a m 0) (omega arith)) in
          ap (λ (states : List ℕ). leads f ms hole p q (record { terminal = transition_byte a i 0; target = transition_byte a i 1; children = states })) children
      go (no n) = leads_other f ms hole p q (transition_at alphabet a i) n ∙ sym (leads_other f ms hole p q (transition_with a (length ms) i) n)

  pub pairs_any : pairs_of a f ms hole ≡ matrix (λ p q. any (leads f ms hole p q) (transitions_of alphabet a))
  unfolding transitions_of
  pairs_any =
      matrix_cong (λ p q. some (transition_count a) (λ i. leads f ms hole p q (transition_with a (length ms) i))) (λ p q. any (leads f ms hole p q) (transitions_of alphabet a))
      (λ p q hp hq. sym (any-tabulate (transition_count a) (transition_at alphabet a) (leads f ms hole p q)
      ∙ some_cong (transition_count a) (λ i. leads f ms hole p q (transition_at alphabet a i)) (λ i. leads f ms hole p q (transition_with a (length ms) i)) (λ i h. same_transition p q i h)))

-- A node with no open place.

as_many : (ms cs : List ℕ) → T (all_in ms cs) → length cs ≡ length ms
unfolding all_in
as_many [] [] h = refl
as_many [] (c ∷ cs) h = absurd h
as_many (m ∷ ms) [] h = absurd h
as_many (m ∷ ms) (c ∷ cs) h = ap suc (as_many ms cs (both_1 (has m c) (all_in ms cs) h))

closed-leads : (f q : ℕ) (ms : List ℕ) (τ : Transition) → leads f ms (length ms) 0 q τ ≡ fires f ms q τ
closed-leads f q ms τ = go (fires f ms q τ) refl
  where
    go : (b : Bool) → fires f ms q τ ≡ b → leads f ms (length ms) 0 q τ ≡ fires f ms q τ
    go true e =
        let n = as_many ms τ.children (fires-out f q ms τ (of_true (fires f ms q τ) e)).2 in
        let l : length τ.children ≤ length ms = omega arith in
        rw (get_or-eq_default τ.children 0 l) (and-true (fires f ms q τ))
    go false e = rw e

-- row 0 of a relation
row_zero : (g : ℕ → ℕ → Bool) → matrix g % 256 ≡ set_of 8 (g 0)
unfolding related
row_zero g =
    set-bits 8 (matrix g % 256) (g 0) (omega arith)
    (λ q hq. has-low (matrix g) 8 q hq ∙ ap (has (matrix g)) (omega arith) ∙ matrix-has g 0 q (omega arith) hq)

pub closed-step : (alphabet a ms : List ℕ) (f : ℕ) → terminal_rank alphabet f ≡ length ms → AllUsable a f (length ms)
    → pairs_of a f ms (length ms) % 256 ≡ step (transitions_of alphabet a) f ms
unfolding step
closed-step alphabet a ms f rank w =
    ap (λ (x : ℕ). x % 256) (pairs_any alphabet a ms f rank w (length ms)) ∙ row_zero (λ p q. any (leads f ms (length ms) p q) (transitions_of alphabet a))
    ∙ set_cong 8 (λ q. any (leads f ms (length ms) 0 q) (transitions_of alphabet a)) (λ q. any (fires f ms q) (transitions_of alphabet a))
    (λ q hq. any_cong (leads f ms (length ms) 0 q) (fires f ms q) (transitions_of alphabet a) (λ τ. closed-leads f q ms τ))

-- A node with an open place: every state there, and then that it is p, is the set of p there.

open_in : (ms : List ℕ) (hole : ℕ) (cs : List ℕ) (p : ℕ) → p < 8 → hole < length ms
    → all_in (set ms hole 255) cs && eqb (get_or cs hole 0) p ≡ all_in (set ms hole (2 ^ p)) cs
unfolding all_in
open_in [] hole cs p hp h = absurd (omega arith)
open_in (m ∷ ms) zero [] p hp h = refl
open_in (m ∷ ms) zero (c ∷ cs) p hp h = go (ℕᴺ_discrete c p)
  where
    go : Dec (c ≡ p) → (has 255 c && all_in ms cs) && eqb c p ≡ has (2 ^ p) c && all_in ms cs
    go (yes e) = rw (e, all_states p hp, is_true (has (2 ^ p) p) (power_has p), is_true (eqb p p) (eqb_refl p)) (and-true (all_in ms cs))
    go (no n) = rw (ne_eqb c p n, power_has_is p c, ne_eqb p c (λ e. n (sym e))) (and-false (has 255 c && all_in ms cs))
open_in (m ∷ ms) (suc hole) [] p hp h = refl
open_in (m ∷ ms) (suc hole) (c ∷ cs) p hp h =
    and_assoc (has m c) (all_in (set ms hole 255) cs) (eqb (get_or cs hole 0) p) ∙ ap (λ (t : Bool). has m c && t) (open_in ms hole cs p hp (omega arith))

open_leads : (f p q : ℕ) (ms : List ℕ) (hole : ℕ) (τ : Transition) → p < 8 → hole < length ms
    → leads f (set ms hole 255) hole p q τ ≡ fires f (set ms hole (2 ^ p)) q τ
unfolding fires
open_leads f p q ms hole τ hp h =
    and_assoc (eqb τ.terminal f) _ (eqb (get_or τ.children hole 0) p)
    ∙ ap (λ (t : Bool). eqb τ.terminal f && t)
    (and_assoc (eqb τ.target q) (all_in (set ms hole 255) τ.children) (eqb (get_or τ.children hole 0) p)
    ∙ ap (λ (t : Bool). eqb τ.target q && t) (open_in ms hole τ.children p hp h))

pub open_step_lem : (alphabet a ms : List ℕ) (f : ℕ) → terminal_rank alphabet f ≡ length ms → AllUsable a f (length ms) → (hole : ℕ) → hole < length ms
    → pairs_of a f (set ms hole 255) hole ≡ matrix (λ p q. has (step (transitions_of alphabet a) f (set ms hole (2 ^ p))) q)
unfolding step
open_step_lem alphabet a ms f rank w hole h =
    let n : length (set ms hole 255) ≡ length ms = length-set ms hole 255 in
    let δ = transitions_of alphabet a in
    pairs_any alphabet a (set ms hole 255) f (rank ∙ sym n) (rw n w) hole
    ∙ matrix_cong (λ p q. any (leads f (set ms hole 255) hole p q) δ) (λ p q. has (step δ f (set ms hole (2 ^ p))) q)
    (λ p q hp hq.
    any_cong (leads f (set ms hole 255) hole p q) (fires f (set ms hole (2 ^ p)) q) δ (λ τ. open_leads f p q ms hole τ hp h)
    ∙ sym (has-set 8 (λ r. any (fires f (set ms hole (2 ^ p)) r) δ) q hq))

-- The entries of a form's rules.

states_many : (w : ℕ → ℕ) (slots : List ℕ) → length (states_at w slots) ≡ length slots
unfolding states_at
states_many w [] = refl
states_many w (s ∷ slots) = ap suc (states_many w slots)

pub closed-relation : (alphabet a sets slots : List ℕ) (f : ℕ) (w : ℕ → ℕ) → take (terminal_rank alphabet f) sets ≡ states_at w slots
    → closed_step alphabet a f sets ≡ relation_of (transitions_of alphabet a) (whole f slots) w
unfolding relation_of
closed-relation alphabet a sets slots f w e = ap (step (transitions_of alphabet a) f) e

pub open_relation : (alphabet a sets ls rs : List ℕ) (f x : ℕ) (w : ℕ → ℕ) → take (terminal_rank alphabet f) sets ≡ states_at w ls ++ (x ∷ states_at w rs)
    → open_step alphabet a f sets (length ls) ≡ relation_of (transitions_of alphabet a) (pierced f ls rs) w
unfolding relation_of
open_relation alphabet a sets ls rs f x w e =
    let δ = transitions_of alphabet a in
    matrix_cong (λ p q. has (step δ f (set (take (terminal_rank alphabet f) sets) (length ls) (2 ^ p))) q) (λ p q. has (step δ f (states_at w ls ++ (2 ^ p ∷ states_at w rs))) q)
    (λ p q hp hq.
    ap (λ (ms : List ℕ). has (step δ f ms) q)
    (ap (λ (ms : List ℕ). set ms (length ls) (2 ^ p)) e ∙ set_at (states_at w ls) x (states_at w rs) (2 ^ p) (length ls) (states_many w ls)))
