-- What an alphabet and an automaton that pass their checks let a walk over the transitions use.
use mathlib.Core.Path.{◌≡◌, ap, sym, ◌∙◌}
use mathlib.Core.List.{List}
use Prim.Native.Nat.{ℕ, ◌≤◌, ◌<◌}
use native.Mathlib.Omega.{arith}
use lib.ListN.{length, take}
use lib.Seq.{length-take-le}
use Rattle.terms.specs.Grammar.{terminal_rank}
use Rattle.terms.specs.Sheet.{transition_count, transition_byte}
use Rattle.terms.specs.Check.{alphabet_refusal, automaton_refusal}
use Rattle.terms.proofs.Sheet.Passed.{alphabet_passed}
use Rattle.terms.proofs.Sheet.Automaton.{automaton_passed}
use Rattle.terms.proofs.Form.Bytes.{rank_le}
use Rattle.transitions.proofs.Leads.{Usable}

module _ (alphabet a : List ℕ) (alphabet_passes : alphabet_refusal alphabet ≡ 0) (automaton_passes : automaton_refusal alphabet a ≡ 0) where
  -- no terminal has more than four children
  pub rank_few : (f : ℕ) → terminal_rank alphabet f ≤ 4
  rank_few f = rank_le alphabet (alphabet_passed alphabet alphabet_passes).ranks f

  -- a transition whose terminal has the rank n
  pub usable : (i n : ℕ) → i < transition_count a → n ≡ terminal_rank alphabet (transition_byte a i 0) → Usable a n i
  usable i n h r =
      let p = automaton_passed alphabet a automaton_passes in
      let t = p.transitions i h in
      record {
        whole = omega (arith, p.long);
        rank = omega (arith, rank_few (transition_byte a i 0));
        target = omega (arith, t.target, p.few_states);
        children = λ j k. omega (arith, t.child j (omega (arith, rank_few (transition_byte a i 0))) (omega arith), p.few_states);
      }

  -- each transition of a terminal of the rank n
  pub usable-of : (f n : ℕ) → n ≡ terminal_rank alphabet f → (i : ℕ) → i < transition_count a → transition_byte a i 0 ≡ f → Usable a n i
  usable-of f n r i h t = usable i n h (r ∙ ap (terminal_rank alphabet) (sym t))

  -- The sets of a node's children: as many of four as the rank of its terminal.
  pub as_many : (f : ℕ) (sets : List ℕ) → length sets ≡ 4 → length (take (terminal_rank alphabet f) sets) ≡ terminal_rank alphabet f
  as_many f sets four = length-take-le (terminal_rank alphabet f) sets (omega (arith, rank_few f))
