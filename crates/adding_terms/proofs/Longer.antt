-- The longer automaton: its transitions are the old ones and the new one behind them, and it passes 14 to 16.
use mathlib.Core.Path.{◌≡◌, refl, sym, ap, ◌∙◌}
use mathlib.Core.Bool.{Bool, true, false, not, ◌&&◌}
use mathlib.Core.Logic.{◌⊎◌, inl, inr}
use mathlib.Core.List.{List, [], ◌∷◌, ◌++◌}
use Prim.Native.Nat.{ℕ, zero, suc, ◌+◌, ◌*◌, ◌-◌, ◌%◌, ◌≤◌, ◌<◌}
use native.Mathlib.Omega.{arith}
use native.Mathlib.Nat.{eq-or-lt_of_le}
use lib.Dec.{T, ltb, eqb}
use lib.ListN.{length, get_or, length-append, get_or-append}
use lib.Seq.{get_or-append-add}
use borrow.Author.Tests.{leb-false, eqb-true, le-ltb, eq-eqb, not-false}
use Rattle.terms.specs.Test.{every, tabulate}
use Rattle.terms.specs.Refusal.{◌when◌, first}
use Rattle.terms.specs.Grammar.{terminal_rank}
use Rattle.terms.specs.Automaton.{Transition}
use Rattle.terms.specs.Sheet.{state_count, finals, transition_count, transition_byte, transition_at, transitions_of}
use Rattle.terms.specs.Check.{child_fits, transition_fits, wrong_length, wrong_states, most_transitions, automaton_refusal}
use Rattle.terms.proofs.Test.{is_true, of_true, or_false, every_at, every_of}
use Rattle.terms.proofs.Tabulate.{length-tabulate, get_d_tabulate, tabulate-more, tabulated}
use Rattle.terms.proofs.Refusal.{no_row}
use Rattle.terms.proofs.Sheet.Automaton.{AutomatonPassed, automaton_passed}
use Rattle.adding_terms.specs.Adding.{longer, new_terminal, no_room, wrong_transition}

every-within : (n : ℕ) (p q : ℕ → Bool) → ((k : ℕ) → k < n → p k ≡ q k) → every n p ≡ every n q
unfolding every
every-within zero p q e = refl
every-within (suc n) p q e = rw (e n (omega arith), every-within n p q (λ k h. e k (omega arith)))

tabulate-within : {A : Type 0} (n : ℕ) (f g : ℕ → A) (d : A) → ((j : ℕ) → j < n → f j ≡ g j) → tabulate n f ≡ tabulate n g
tabulate-within n f g d e = tabulated n f d (tabulate n g) (length-tabulate n g) (λ j h. e j h ∙ sym (get_d_tabulate n g d j h))

-- two transitions with the same six bytes
module _ (alphabet a b : List ℕ) (i j : ℕ) (same : (k : ℕ) → k < 6 → transition_byte a i k ≡ transition_byte b j k) where
  fits-same : state_count a ≡ state_count b → transition_fits alphabet a i ≡ transition_fits alphabet b j
  unfolding transition_fits
  fits-same e =
      let n = terminal_rank alphabet (transition_byte b j 0) in
      rw (same 0 (omega arith), same 1 (omega arith), e)
      (ap (λ (t : Bool). ltb (transition_byte b j 0) (length alphabet) && (ltb (transition_byte b j 1) (state_count b) && t))
      (every-within 4 (λ k. child_fits (state_count b) n k (transition_byte a i (2 + k))) (λ k. child_fits (state_count b) n k (transition_byte b j (2 + k)))
      (λ k h. ap (child_fits (state_count b) n k) (same (2 + k) (omega arith)))))

  transition_same : ((f : ℕ) → terminal_rank alphabet f ≤ 4) → transition_at alphabet a i ≡ transition_at alphabet b j
  unfolding transition_at
  transition_same low =
      let f = transition_byte b j 0 in
      rw (
        same 0 (omega arith),
        same 1 (omega arith),
        tabulate-within (terminal_rank alphabet f) (λ k. transition_byte a i (2 + k)) (λ k. transition_byte b j (2 + k)) 0 (λ k h. same (2 + k) (omega (arith, low f))),
      )

-- the new transition as one of the longer automaton
abbrev pub new_transition : List ℕ → List ℕ → List ℕ → Transition
new_transition alphabet a new = transition_at alphabet (longer a new) (transition_count a)

module _ (a new : List ℕ) (long : length a ≡ 2 + 6 * transition_count a) (six : length new ≡ 6) where
  abbrev n : ℕ
  n = transition_count a

  abbrev l : List ℕ
  l = longer a new

  longer-length : length l ≡ 2 + 6 * suc n
  longer-length = omega (arith, length-append a new)

  longer-count : transition_count l ≡ suc n
  unfolding transition_count
  longer-count = omega (arith, longer-length)

  longer_states : state_count l ≡ state_count a
  longer_states = get_or-append a new 0 0 (omega arith)

  longer-finals : finals l ≡ finals a
  longer-finals = get_or-append a new 0 1 (omega arith)

  old-byte : (i : ℕ) → i < n → (k : ℕ) → k < 6 → transition_byte l i k ≡ transition_byte a i k
  old-byte i h k m = get_or-append a new 0 (2 + 6 * i + k) (omega arith)

  new-byte : (k : ℕ) → transition_byte l n k ≡ get_or new k 0
  new-byte k =
      let e : 2 + 6 * n + k ≡ length a + k = omega arith in
      rw e (get_or-append-add a new k 0)

  -- the terminal of the new transition is its first byte
  pub new-terminal : (alphabet : List ℕ) → (new_transition alphabet a new).terminal ≡ new_terminal new
  unfolding transition_at
  new-terminal alphabet = new-byte 0

  -- the new transition fits as the only one of an automaton with as many states does
  pub new-fits : (alphabet : List ℕ) (set : ℕ) → transition_fits alphabet l n ≡ transition_fits alphabet (state_count a ∷ set ∷ new) 0
  new-fits alphabet set = fits-same alphabet l (state_count a ∷ set ∷ new) n 0 (λ k h. new-byte k ∙ alone-byte k) longer_states
    where
      alone-byte : (k : ℕ) → get_or new k 0 ≡ transition_byte (state_count a ∷ set ∷ new) 0 k
      alone-byte k =
          let e : 2 + 6 * 0 + k ≡ suc (suc k) = omega arith in
          rw e

  pub longer_transitions : (alphabet : List ℕ) → ((f : ℕ) → terminal_rank alphabet f ≤ 4) → transitions_of alphabet l ≡ transitions_of alphabet a ++ (new_transition alphabet a new ∷ [])
  unfolding transitions_of
  longer_transitions alphabet low =
      rw longer-count
      (tabulate-more n (transition_at alphabet l)
      ∙ ap (λ (ts : List Transition). ts ++ (transition_at alphabet l n ∷ []))
      (tabulate-within n (transition_at alphabet l) (transition_at alphabet a) (record { terminal = 0; target = 0; children = [] })
      (λ i h. transition_same alphabet l a i i (old-byte i h) low)))

  longer-fits : (alphabet : List ℕ) → ((i : ℕ) → i < n → T (transition_fits alphabet a i)) → T (transition_fits alphabet l n)
      → (i : ℕ) → (i ≡ n) ⊎ (i < n) → T (transition_fits alphabet l i)
  longer-fits alphabet old new-fits i (inl e) = rw e new-fits
  longer-fits alphabet old new-fits i (inr h) = rw (fits-same alphabet l a i i (old-byte i h) longer_states) (old i h)

all_pass : (b14 b15 b16 : Bool) → b14 ≡ false → b15 ≡ false → b16 ≡ true → first (14 when b14 ∷ 15 when b15 ∷ 16 when (not b16) ∷ []) ≡ 0
all_pass b14 b15 b16 p q r = rw (p, q, r)

-- what 14 to 16 and 29 say of the old automaton and the new transition
pub record Addable (alphabet a new : List ℕ) : Type 0 where
  pub old : AutomatonPassed alphabet a
  pub room : transition_count a < most_transitions
  pub six : length new ≡ 6
  pub passes : automaton_refusal alphabet (longer a new) ≡ 0

module _ (alphabet a new : List ℕ) (e : automaton_refusal alphabet a ≡ 0) (room : no_room a ≡ false) (right : wrong_transition alphabet a new ≡ false) where
  -- the longer automaton passes too
  pub addable : Addable alphabet a new
  unfolding automaton_refusal
  addable =
      let n = transition_count a in
      let l = longer a new in
      let p = automaton_passed alphabet a e in
      let (r6, rf) = or_false (not (eqb (length new) 6)) (not (transition_fits alphabet l n)) right in
      let six : length new ≡ 6 = eqb-true (length new) 6 (not-false _ r6) in
      let fit = of_true (transition_fits alphabet l n) (not-false _ rf) in
      let few : n < most_transitions = leb-false most_transitions n room in
      let (e14, r14) = no_row 13 (wrong_length a) _ e in
      let (e15, r15) = no_row 14 (wrong_states (state_count a) (finals a)) _ r14 in
      let e16 = (no_row 15 (not (every n (transition_fits alphabet a))) _ r15).0 in
      let old = every_at n (transition_fits alphabet a) (of_true (every n (transition_fits alphabet a)) (not-false _ e16)) in
      let long = longer-length a new p.long six in
      let count = longer-count a new p.long six in
      let length14 : wrong_length l ≡ false = rw (le-ltb (length l) 2 (omega arith), eq-eqb ((length l - 2) % 6) 0 (omega arith), le-ltb most_transitions (transition_count l) (omega arith)) in
      let states15 : wrong_states (state_count l) (finals l) ≡ false = rw (longer_states a new p.long six, longer-finals a new p.long six) e15 in
      let each16 : every (transition_count l) (transition_fits alphabet l) ≡ true = is_true _ (every_of (transition_count l) (transition_fits alphabet l)
      (λ i h. longer-fits a new p.long six alphabet old fit i (eq-or-lt_of_le (omega arith)))) in
      record { old = p; room = few; six = six; passes = all_pass (wrong_length l) (wrong_states (state_count l) (finals l)) (every (transition_count l) (transition_fits alphabet l)) length14 states15 each16 }
