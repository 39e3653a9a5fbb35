-- One step of the method: the states of a node from those of its children, whatever these are (document 02, R-7; source document 003, Theorem 1).
-- Only functions that are no calls cite these.
use Rattle.std.specs.Prelude.{Bool, cond, ◌&&◌, List, [], ◌∷◌, map, ◌≡◌, ℕ, ◌*◌, ◌/◌, ◌%◌, ◌^◌, ◌<◌, get_or, take, drop}
use Rattle.terms.specs.Test.{some, every, tabulate}
use Rattle.terms.specs.Grammar.{Name, terminal, nonterminal, parameter, nothing, name}
use Rattle.terms.specs.Automaton.{Transition, has, set_of, step}
use Rattle.terms.specs.Check.{highest_rank}
use Rattle.blackboard_terms.specs.Blackboard.{table_length, state_at}

-- the sets from which a call takes the states of its rule's parameters: that of its argument for a parameter that is present, and state 0 alone for any other,
-- whose argument is not asked for a run (02 R-7)
abbrev pub entered : (ℕ → Bool) → List ℕ → List ℕ
entered present ms = tabulate highest_rank (λ j. cond (present j) (get_or ms j 0) 1)

-- choice c takes a state of each of four sets (02 R-7)
abbrev pub from_sets : List ℕ → ℕ → Bool
from_sets sets c = every highest_rank (λ j. has (get_or sets j 0) (state_at c j))

-- the states of a call whose rule has this table: those of every byte whose choice takes its states from the sets (02 R-7)
unfoldable pub call_states : List ℕ → List ℕ → ℕ
call_states table sets = set_of 8 (λ q. some table_length (λ c. from_sets sets c && has (get_or table c 0) q))

-- the states of a node whose children have the sets ms, under choice c for the parameters of its own rule, where call gives those of a call (02 R-7)
abbrev pub name_states : List Transition → (ℕ → List ℕ → ℕ) → ℕ → List ℕ → Name → ℕ
name_states δ call c ms (terminal f) = step δ f ms
name_states δ call c ms (nonterminal r) = call r ms
name_states δ call c ms (parameter j) = 2 ^ state_at c j
name_states δ call c ms nothing = 0

-- the sets of the trees that nodes in preorder make, the last node first: a node takes as many sets as its rank, and gives one (02 R-7)
unfoldable pub scanned : (List ℕ → Name → ℕ) → (ℕ → ℕ) → List ℕ → List ℕ
scanned alg rank [] = []
scanned alg rank (n ∷ ns) = let ms = scanned alg rank ns in alg (take (rank n) ms) (name n) ∷ drop (rank n) ms

-- Eight choices at once, which differ in the state of the first parameter alone: a node then has a relation between that state and its own, a number of 64
-- bits whose lane p, eight bits, is the set of a node's states where the first parameter has state p.

-- lane p of a relation (01 Mask from the form)
unfoldable pub lane : ℕ → ℕ → ℕ
lane x p = x / 2 ^ (8 * p) % 256

-- lane p of each relation of a list (01 Mask from the form)
abbrev pub lanes_at : ℕ → List ℕ → List ℕ
lanes_at p xs = map (λ x. lane x p) xs

-- the first n lanes of x are f 0, f 1 and so on (02 R-7)
abbrev pub LanesAre : ℕ → ℕ → (ℕ → ℕ) → Type 0
LanesAre n x f = (p : ℕ) → p < n → lane x p ≡ f p
