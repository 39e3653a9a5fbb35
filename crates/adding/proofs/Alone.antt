-- The new transition, tested as the only one of an automaton with the same states.
use mathlib.Core.Path.{◌≡◌, sym, ap, ◌∙◌}
use mathlib.Core.Bool.{Bool, not}
use mathlib.Core.List.{List, ◌∷◌, ◌++◌, append-nil}
use Prim.Native.Nat.{ℕ, ◌+◌, ◌*◌}
use lib.ListN.{length, take, drop, set, replicate}
use borrow.Author.Tests.{eq-eqb}
use Rattle.terms.specs.Sheet.{state_count, transition_count}
use Rattle.terms.specs.Check.{transition_fits}
use Rattle.adding_terms.specs.Adding.{wrong_transition}
use Rattle.adding_terms.proofs.Longer.{new-fits}

module _ (alphabet a new : List ℕ) (long : length a ≡ 2 + 6 * transition_count a) (six : length new ≡ 6) where
  -- eight bytes: the states, and the transition copied behind the head
  abbrev states : List ℕ
  states = set (replicate 8 0) 0 (state_count a)

  alone-is : take 2 states ++ (new ++ drop (2 + length new) states) ≡ state_count a ∷ 0 ∷ new
  alone-is = rw (six, append-nil)

  pub alone-fits : (alone : List ℕ) (fits : Bool) → alone ≡ take 2 states ++ (new ++ drop (2 + length new) states) → fits ≡ transition_fits alphabet alone 0
      → not fits ≡ wrong_transition alphabet a new
  alone-fits alone fits copied tested =
      let same : fits ≡ transition_fits alphabet (a ++ new) (transition_count a) =
      tested ∙ ap (λ (xs : List ℕ). transition_fits alphabet xs 0) (copied ∙ alone-is) ∙ sym (new-fits a new long six alphabet 0) in
      rw (eq-eqb (length new) 6 six, ← same)
