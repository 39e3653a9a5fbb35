-- What a step of a node through an automaton gives, and what the walk over the transitions of its terminal finds.
use Rattle.std.specs.Prelude.{Bool, ◌&&◌, List, ℕ, ◌+◌, ◌*◌, ◌^◌, eqb, length, get_or, take, drop, set}
use Rattle.terms.specs.Test.{some}
use Rattle.terms.specs.Grammar.{terminal_rank}
use Rattle.terms.specs.Automaton.{Transition, has, fires, step}
use Rattle.terms.specs.Relation.{matrix}
use Rattle.terms.specs.Sheet.{transition_count, transition_byte, transitions_of}

-- the states that a node f can take, whose children can take the sets; only as many sets count as the rank of f (01 Mask from the form)
abbrev pub closed_step : List ℕ → List ℕ → ℕ → List ℕ → ℕ
closed_step alphabet a f sets = step (transitions_of alphabet a) f (take (terminal_rank alphabet f) sets)

-- the relation of a node f whose child at the hole, counted from 0, is its open place; the set at the hole does not count (01 Mask from the form)
abbrev pub open_step : List ℕ → List ℕ → ℕ → List ℕ → ℕ → ℕ
open_step alphabet a f sets hole =
    matrix (λ p q. has (step (transitions_of alphabet a) f (set (take (terminal_rank alphabet f) sets) hole (2 ^ p))) q)

-- What the walk finds; no document defines these.

-- transition i with n child states
abbrev pub transition_with : List ℕ → ℕ → ℕ → Transition
transition_with a n i = record {
  terminal = transition_byte a i 0;
  target = transition_byte a i 1;
  children = take n (drop (2 + 6 * i + 2) a);
}

-- the transition gives a node f the state q, whose children can take the states ms, and asks p of the child at the hole, 0 where there is no such child
abbrev pub leads : ℕ → List ℕ → ℕ → ℕ → ℕ → Transition → Bool
leads f ms hole p q τ = fires f ms q τ && eqb (get_or τ.children hole 0) p

-- the pairs that transition i leads between, for a node of its terminal whose children can take the states ms
abbrev pub pair_of : List ℕ → ℕ → List ℕ → ℕ → ℕ
pair_of a i ms hole = matrix (λ p q. leads (transition_byte a i 0) ms hole p q (transition_with a (length ms) i))

-- the pairs that the transitions of an automaton lead between, for a node f whose children can take the states ms
abbrev pub pairs_of : List ℕ → ℕ → List ℕ → ℕ → ℕ
pairs_of a f ms hole = matrix (λ p q. some (transition_count a) (λ i. leads f ms hole p q (transition_with a (length ms) i)))
