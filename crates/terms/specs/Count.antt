-- Node counts of what a form's rules derive (document 01, "Unfolding" and "Size, label, wrap, tally, program").
use Rattle.std.specs.Prelude.{cond, ◌++◌, ℕ, ◌-◌, ◌^◌, min, ltb, length}
use Rattle.terms.specs.Tree.{Tree, preorder}
use Rattle.terms.specs.Context.{before, after}
use Rattle.terms.specs.Form.{Value, closed, context}

-- the size of a tree: how many nodes it has (000 §3)
abbrev pub size_of : Tree → ℕ
size_of t = length (preorder t)

-- the nodes that a rule derives, the open place not counted (01 Unfolding)
abbrev pub own_nodes : Value → ℕ
own_nodes (closed t) = size_of t
own_nodes (context c) = length (before c ++ after c)

-- the nodes before the open place, 0 for rank 0 (01 Unfolding)
abbrev pub nodes_before : Value → ℕ
nodes_before (closed t) = 0
nodes_before (context c) = length (before c)

-- the largest number of 64 bits (01 Size, label)
abbrev pub largest : ℕ
largest = 2 ^ 64 - 1

-- a count as it is lent out (01 Unfolding)
abbrev pub capped : ℕ → ℕ
capped n = min n largest

-- a size as it is answered (01 Size, label)
pub data Size : Type 0 where
  exact : ℕ → Size
  over : Size

-- a number of nodes as a size: exact below the largest number of 64 bits, else over (01 Size, label)
unfoldable pub size_answer : ℕ → Size
size_answer n = cond (ltb n largest) (exact n) over
