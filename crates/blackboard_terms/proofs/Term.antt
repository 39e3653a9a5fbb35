-- What a rule derives with its parameters left open, as a term with numbered open places, and runs that enter there. No contract speaks of terms: `open_tree`, in
-- which a parameter is a node, is the term with those nodes in its places.
use mathlib.Core.Path.{◌≡◌}
use mathlib.Core.Bool.{cond}
use mathlib.Core.List.{List, [], ◌∷◌}
use Prim.Native.Nat.{ℕ, zero, suc, ◌+◌, ◌≤◌, ◌<◌}
use lib.Dec.{eqb}
use Rattle.terms.specs.Tree.{Tree, Forest, node, none, more, pick, tree_of}
use Rattle.terms.specs.Table.{entry}
use Rattle.terms.specs.Grammar.{Name, terminal, nonterminal, parameter, nothing, name, Rule, rank_in}
use Rattle.terms.specs.Automaton.{Transition, In}

mutual
  -- a tree over terminals with open places, numbered by parameters from 0
  pub data Term : Type 0 where
    place : ℕ → Term
    symbol : ℕ → Terms → Term

  -- a list of such trees
  pub data Terms : Type 0 where
    empty : Terms
    front : Term → Terms → Terms

-- how many there are
unfoldable pub size : Terms → ℕ
size empty = 0
size (front t ts) = suc (size ts)

-- the term at a place of a list, counted from 0; past the end, a term of one node 0
unfoldable pub nth : Terms → ℕ → Term
nth empty j = symbol 0 empty
nth (front t ts) zero = t
nth (front t ts) (suc j) = nth ts j

unfoldable mutual
  -- a term with the terms us in its open places, which may have open places themselves
  pub in_places : Terms → Term → Term
  in_places us (place j) = nth us j
  in_places us (symbol f ts) = symbol f (in_places_all us ts)

  pub in_places_all : Terms → Terms → Terms
  in_places_all us empty = empty
  in_places_all us (front t ts) = front (in_places us t) (in_places_all us ts)

unfoldable mutual
  -- the tree that a term becomes with trees in its open places
  pub closed : Forest → Term → Tree
  closed args (place j) = pick args j
  closed args (symbol f ts) = node f (closed_all args ts)

  pub closed_all : Forest → Terms → Forest
  closed_all args empty = none
  closed_all args (front t ts) = more (closed args t) (closed_all args ts)

-- a node of a right side whose children have the terms us: a call is what its rule derives, with us in the open places
abbrev pub name_term : (ℕ → Term) → Terms → Name → Term
name_term v us (terminal f) = symbol f us
name_term v us (nonterminal r) = in_places us (v r)
name_term v us (parameter j) = place j
name_term v us nothing = symbol 0 empty

unfoldable mutual
  -- the term of a right side, where v has those of lower rules
  pub term_of : (ℕ → Term) → Tree → Term
  term_of v (node n ts) = name_term v (terms_of v ts) (name n)

  pub terms_of : (ℕ → Term) → Forest → Terms
  terms_of v none = empty
  terms_of v (more t ts) = front (term_of v t) (terms_of v ts)

-- the rule where there is none
abbrev pub no_rule : Rule
no_rule = record { rank = 0; nodes = [] }

-- the right side of a rule
abbrev pub side_of : List ℕ → List Rule → Rule → Tree
side_of alphabet rules rule = tree_of (rank_in alphabet rules) rule.nodes

-- what rule i derives with its parameters left open
unfoldable pub open_term : List ℕ → List Rule → ℕ → Term
open_term alphabet rules i = entry no_rule (symbol 0 empty) (λ rule v. term_of v (side_of alphabet rules rule)) rules (suc i) i

abbrev mutual
  -- a run that enters at an open place j in the state ps j and gives the root the state q
  pub RunOpen : List Transition → (ℕ → ℕ) → Term → ℕ → Type 0
  RunOpen δ ps (place j) q = ps j ≡ q
  RunOpen δ ps (symbol f ts) q = (τ : Transition) × In τ δ × (τ.terminal ≡ f) × (τ.target ≡ q) × RunsOpen δ ps ts τ.children

  pub RunsOpen : List Transition → (ℕ → ℕ) → Terms → List ℕ → Type 0
  RunsOpen δ ps empty [] = Unit {0}
  RunsOpen δ ps empty (q ∷ qs) = ⊥
  RunsOpen δ ps (front t ts) [] = ⊥
  RunsOpen δ ps (front t ts) (q ∷ qs) = RunOpen δ ps t q × RunsOpen δ ps ts qs

unfoldable mutual
  -- a sum over the open places of a term
  pub over_places : (ℕ → ℕ) → Term → ℕ
  over_places h (place j) = h j
  over_places h (symbol f ts) = over_all h ts

  pub over_all : (ℕ → ℕ) → Terms → ℕ
  over_all h empty = 0
  over_all h (front t ts) = over_places h t + over_all h ts

-- x at i, and 0 elsewhere
abbrev pub only : ℕ → ℕ → ℕ → ℕ
only i x k = cond (eqb i k) x 0

-- how often parameter j stands in a term
abbrev pub occurs : ℕ → Term → ℕ
occurs j t = over_places (only j 1) t

-- each parameter stands in the term at most once
abbrev pub Linear : Term → Type 0
Linear t = (j : ℕ) → occurs j t ≤ 1

-- parameter j is present
abbrev pub Present : ℕ → Term → Type 0
Present j t = 0 < occurs j t

abbrev mutual
  -- the symbols of a term are terminals, and its places are below n
  pub Fits : ℕ → Term → Type 0
  Fits n (place j) = j < n
  Fits n (symbol f ts) = (f < 0x20) × AllFit n ts

  pub AllFit : ℕ → Terms → Type 0
  AllFit n empty = Unit {0}
  AllFit n (front t ts) = Fits n t × AllFit n ts
