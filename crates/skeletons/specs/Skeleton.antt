-- What is left of a rule's right side when everything without a parameter is a rule of the form.
use Rattle.std.specs.Prelude.{ℕ, zero, suc, ◌+◌}

mutual
  pub data Skeleton : Type 0 where
    param : ℕ → Skeleton
    -- a rank-0 rule of the form
    shut : ℕ → Skeleton
    -- a rank-1 rule of the form over a skeleton
    under : ℕ → Skeleton → Skeleton
    -- a terminal over skeletons
    branch : ℕ → Skeletons → Skeleton

  pub data Skeletons : Type 0 where
    nil : Skeletons
    cons : Skeleton → Skeletons → Skeletons

-- past the end, what means a tree of one node 0
abbrev pub nth : Skeletons → ℕ → Skeleton
nth nil i = branch 0 nil
nth (cons s ss) zero = s
nth (cons s ss) (suc i) = nth ss i

-- how many skeletons there are
abbrev pub size : Skeletons → ℕ
size nil = 0
size (cons s ss) = suc (size ss)

-- how many rules an instance of the skeleton adds at most
abbrev mutual
  pub weight : Skeleton → ℕ
  weight (param i) = 0
  weight (shut a) = 0
  weight (under c s) = 1 + weight s
  weight (branch f ss) = 2 + weights ss

  pub weights : Skeletons → ℕ
  weights nil = 0
  weights (cons s ss) = weight s + weights ss
