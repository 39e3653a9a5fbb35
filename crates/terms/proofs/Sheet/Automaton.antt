-- What the refusals 14 to 16 let through: an automaton whose transitions give states below 8.
use mathlib.Core.Path.{◌≡◌, subst, sym, ◌∙◌}
use mathlib.Core.Bool.{Bool, not, ◌&&◌, ◌||◌}
use mathlib.Core.List.{List, []}
use Prim.Native.Nat.{ℕ, ◌+◌, ◌*◌, ◌-◌, ◌^◌, ◌%◌, ◌≤◌, ◌<◌}
use native.Mathlib.Omega.{arith}
use lib.Dec.{T, leb, ltb, eqb, ltb→lt, eqb→eq}
use lib.ListN.{length}
use borrow.Author.Tests.{ltb-false, leb-false, eqb-true, lt-ltb, le-ltb, not-false}
use Rattle.terms.specs.Test.{every}
use Rattle.terms.specs.Refusal.{outside}
use Rattle.terms.specs.Grammar.{terminal_rank}
use Rattle.terms.specs.Automaton.{Transition, Small}
use Rattle.terms.specs.Sheet.{state_count, finals, transition_count, transition_byte, transition_at, transitions_of}
use Rattle.terms.specs.Check.{child_fits, transition_fits, automaton_refusal}
use Rattle.terms.proofs.Test.{of_true, both_0, both_1, or_false, every_at}
use Rattle.terms.proofs.Tabulate.{length-tabulate, get_d_tabulate}
use Rattle.terms.proofs.Refusal.{no_row}

-- what is known of transition i
pub record TransitionPassed (alphabet a : List ℕ) (i : ℕ) : Type 0 where
  pub terminal : transition_byte a i 0 < length alphabet
  pub target : transition_byte a i 1 < state_count a
  pub child : (j : ℕ) → j < 4 → j < terminal_rank alphabet (transition_byte a i 0) → transition_byte a i (2 + j) < state_count a
  pub unused : (j : ℕ) → j < 4 → terminal_rank alphabet (transition_byte a i 0) ≤ j → transition_byte a i (2 + j) ≡ 0xFF

pub transition_passed : (alphabet a : List ℕ) (i : ℕ) → T (transition_fits alphabet a i) → TransitionPassed alphabet a i
unfolding transition_fits
transition_passed alphabet a i h =
    let f = transition_byte a i 0 in
    let n = terminal_rank alphabet f in
    let p = ltb f (length alphabet) in
    let q = ltb (transition_byte a i 1) (state_count a) in
    let fit : ℕ → Bool = λ j. child_fits (state_count a) n j (transition_byte a i (2 + j)) in
    let r = both_1 p (q && every 4 fit) h in
    let s = every_at 4 fit (both_1 q (every 4 fit) r) in
    record {
      terminal = ltb→lt f (length alphabet) (both_0 p (q && every 4 fit) h);
      target = ltb→lt (transition_byte a i 1) (state_count a) (both_0 q (every 4 fit) r);
      child = λ j l m. ltb→lt _ _ (rw (lt-ltb j n m) at (s j l));
      unused = λ j l m. eqb→eq _ _ (rw (le-ltb j n m) at (s j l));
    }

-- what is known of an automaton
pub record AutomatonPassed (alphabet a : List ℕ) : Type 0 where
  pub long : length a ≡ 2 + 6 * transition_count a
  pub few : transition_count a ≤ 255
  pub some_state : 1 ≤ state_count a
  pub few_states : state_count a ≤ 8
  pub final : finals a < 2 ^ state_count a
  pub transitions : (i : ℕ) → i < transition_count a → TransitionPassed alphabet a i

pub automaton_passed : (alphabet a : List ℕ) → automaton_refusal alphabet a ≡ 0 → AutomatonPassed alphabet a
unfolding automaton_refusal transition_count
automaton_passed alphabet a e =
    let n = transition_count a in
    let cut = not (eqb ((length a - 2) % 6) 0) in
    let (e14, r14) = no_row 13 (ltb (length a) 2 || (cut || ltb 255 n)) _ e in
    let (e15, r15) = no_row 14 (outside 1 8 (state_count a) || leb (2 ^ state_count a) (finals a)) _ r14 in
    let e16 = (no_row 15 (not (every n (transition_fits alphabet a))) _ r15).0 in
    let (short, x) = or_false (ltb (length a) 2) (cut || ltb 255 n) e14 in
    let (whole, many) = or_false cut (ltb 255 n) x in
    let (range, final) = or_false (outside 1 8 (state_count a)) (leb (2 ^ state_count a) (finals a)) e15 in
    let (low, high) = or_false (ltb (state_count a) 1) (ltb 8 (state_count a)) range in
    record {
      long = omega (arith, ltb-false (length a) 2 short, eqb-true ((length a - 2) % 6) 0 (not-false (eqb ((length a - 2) % 6) 0) whole));
      few = ltb-false _ _ many;
      some_state = ltb-false _ _ low;
      few_states = ltb-false _ _ high;
      final = leb-false _ _ final;
      transitions = λ i h. transition_passed alphabet a i (every_at n (transition_fits alphabet a) (of_true (every n (transition_fits alphabet a)) (not-false _ e16)) i h);
    }

-- every transition gives a state below 8
pub automaton_small : (alphabet a : List ℕ) → AutomatonPassed alphabet a → Small (transitions_of alphabet a)
unfolding transitions_of transition_at
automaton_small alphabet a p τ (i, h, e) =
    let n = transition_count a in
    let l : i < n = omega (arith, length-tabulate n (transition_at alphabet a)) in
    let d : Transition = record { terminal = 0; target = 0; children = [] } in
    let s : transition_at alphabet a i ≡ τ = sym (get_d_tabulate n (transition_at alphabet a) d i l) ∙ e in
    subst (λ (x : Transition). x.target < 8) s (omega (arith, (p.transitions i l).target, p.few_states))
