-- The parts of skeletons, how heavy they are, and what they mean.
use mathlib.Core.List.{List, [], ◌∷◌}
use Prim.Native.Nat.{ℕ, ◌+◌}
use Rattle.terms.specs.Tree.{Tree, Forest, node, none, more, pick}
use Rattle.terms.specs.Context.{plug}
use Rattle.terms.specs.Form.{Rule, tree_in, context_in, value_at}
use Rattle.skeletons.specs.Skeleton.{Skeleton, Skeletons, param, shut, under, branch, nil, cons}

-- one list of skeletons behind another
abbrev pub link : Skeletons → Skeletons → Skeletons
link nil us = us
link (cons s ss) us = cons s (link ss us)

-- rules of the form as closed skeletons
abbrev pub shuts : List ℕ → Skeletons
shuts [] = nil
shuts (a ∷ as') = cons (shut a) (shuts as')

-- 0 for a closed skeleton, 1 for an open one
abbrev pub openness : Skeleton → ℕ
openness (param i) = 1
openness (shut a) = 0
openness (under c s) = 1
openness (branch f ss) = 1

-- how many are open
abbrev pub opens : Skeletons → ℕ
opens nil = 0
opens (cons s ss) = openness s + opens ss

-- the sum of h over the parameters that occur
abbrev mutual
  pub total : (ℕ → ℕ) → Skeleton → ℕ
  total h (param i) = h i
  total h (shut a) = 0
  total h (under c s) = total h s
  total h (branch f ss) = totals h ss

  pub totals : (ℕ → ℕ) → Skeletons → ℕ
  totals h nil = 0
  totals h (cons s ss) = total h s + totals h ss

-- the tree that a skeleton means over a form, at arguments
abbrev mutual
  pub sem : List Rule → Forest → Skeleton → Tree
  sem rs args (param i) = pick args i
  sem rs args (shut a) = tree_in (value_at rs a)
  sem rs args (under c s) = plug (context_in (value_at rs c)) (sem rs args s)
  sem rs args (branch f ss) = node f (sems rs args ss)

  pub sems : List Rule → Forest → Skeletons → Forest
  sems rs args nil = none
  sems rs args (cons s ss) = more (sem rs args s) (sems rs args ss)
