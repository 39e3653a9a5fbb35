-- The transitions of an automaton, linked by terminal, so that a node is taken through those of its own terminal alone. No document defines the links.
use Rattle.std.specs.Prelude.{◌≡◌, List, ℕ, ◌+◌, ◌≤◌, ◌<◌, Option, MatchOption, get_or}
use Rattle.terms.specs.Sheet.{transition_count, transition_byte}

-- j is the first transition of terminal f from place i on, the number of transitions where there is none
pub record First (a : List ℕ) (f i j : ℕ) : Type 0 where
  pub from : i ≤ j
  pub within : j ≤ transition_count a
  pub none : (k : ℕ) → i ≤ k → k < j → transition_byte a k 0 ≡ f → ⊥
  pub here : j < transition_count a → transition_byte a j 0 ≡ f

-- where the first transitions stand in the links, behind those of the transitions
abbrev pub heads : ℕ
heads = 255

-- the links of an automaton: the next transition of the same terminal for each transition, and the first for each terminal
pub record Linked (a links : List ℕ) : Type 0 where
  pub next : (i : ℕ) → i < transition_count a → First a (transition_byte a i 0) (i + 1) (get_or links i 0)
  pub head : (f : ℕ) → f < 256 → First a f 0 (get_or links (heads + f) 0)

-- of the transitions of terminal f that come from i on: none, or i itself, before those that come from j on
abbrev pub GivesNext : List ℕ → ℕ → ℕ → Option ℕ → ℕ → Type 0
GivesNext a f i given j = MatchOption given (i ≡ transition_count a) (λ k. (k ≡ i) × (i < transition_count a) × First a f (i + 1) j)
