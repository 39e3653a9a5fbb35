-- Cells that are kept represent what they represented.
use mathlib.Core.Path.{◌≡◌, ◌∙◌}
use mathlib.Core.List.{List, [], ◌∷◌, ◌++◌}
use Prim.Native.Nat.{ℕ, zero, suc, ◌≤◌, ◌<◌}
use native.Mathlib.Omega.{arith}
use lib.ListN.{length, get_or}
use Rattle.skeletons.specs.Skeleton.{Skeleton, Skeletons, param, shut, under, branch, nil, cons, nth, size}
use Rattle.cells.specs.Cells.{cell_at, Stands, Row}
use Rattle.cells.specs.declared.cells.Cell.{Cell}

-- the cells below a number are kept
module _ (exit entry : List Cell) (count : ℕ) (same : (c : ℕ) → c < count → cell_at exit c ≡ cell_at entry c) where
  mutual
    pub stands-kept : (c : ℕ) (s : Skeleton) → c < count → Stands entry c s → Stands exit c s
    stands-kept c (param i) h p = same c h ∙ p
    stands-kept c (shut a) h p = same c h ∙ p
    stands-kept c (under d s) h (child, is, lower, p) = (child, same c h ∙ is, lower, stands-kept child s (omega arith) p)
    stands-kept c (branch f ss) h (xs, is, four, p) = (xs, same c h ∙ is, four, row_kept c xs ss (omega arith) p)

    pub row_kept : (limit : ℕ) (xs : List ℕ) (ss : Skeletons) → limit ≤ count → Row entry limit xs ss → Row exit limit xs ss
    row_kept limit xs nil h p = tt
    row_kept limit [] (cons s ss) h p = p
    row_kept limit (x ∷ xs) (cons s ss) h p = (p.0, stands-kept x s (omega arith) p.1, row_kept limit xs ss h p.2)

module _ (cells : List Cell) (limit : ℕ) where
  -- a higher limit
  pub row_raised : (limit' : ℕ) → limit ≤ limit' → (xs : List ℕ) (ss : Skeletons) → Row cells limit xs ss → Row cells limit' xs ss
  row_raised limit' h xs nil p = tt
  row_raised limit' h [] (cons s ss) p = p
  row_raised limit' h (x ∷ xs) (cons s ss) p = (omega arith, p.1, row_raised limit' h xs ss p.2)

  -- more numbers behind them
  pub row_extended : (xs ys : List ℕ) (ss : Skeletons) → Row cells limit xs ss → Row cells limit (xs ++ ys) ss
  row_extended xs ys nil p = tt
  row_extended [] ys (cons s ss) p = absurd p
  row_extended (x ∷ xs) ys (cons s ss) p = (p.0, p.1, row_extended xs ys ss p.2)

  -- one of them
  pub row_at : (xs : List ℕ) (ss : Skeletons) → Row cells limit xs ss → (j : ℕ) → j < size ss → (get_or xs j 0 < limit) × Stands cells (get_or xs j 0) (nth ss j)
  row_at xs nil p j h = absurd (omega arith)
  row_at [] (cons s ss) p j h = absurd p
  row_at (x ∷ xs) (cons s ss) p zero h = (p.0, p.1)
  row_at (x ∷ xs) (cons s ss) p (suc j) h = row_at xs ss p.2 j (omega arith)

  -- there are as many
  pub row-long : (xs : List ℕ) (ss : Skeletons) → Row cells limit xs ss → size ss ≤ length xs
  row-long xs nil p = omega arith
  row-long [] (cons s ss) p = absurd p
  row-long (x ∷ xs) (cons s ss) p = omega (arith, row-long xs ss p.2)
