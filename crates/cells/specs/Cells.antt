-- The cells in which form making keeps skeletons (what is left of a right side when everything without a parameter is a rule of the form).
use Rattle.std.specs.Prelude.{◌≡◌, Bool, true, false, List, [], ◌∷◌, ◌++◌, ℕ, ◌+◌, ◌*◌, ◌<◌, length, get_or, drop, take, min}
use Rattle.terms.specs.Check.{most_nodes}
use Rattle.terms.specs.FormBytes.{unused}
use Rattle.skeletons.specs.Skeleton.{Skeleton, Skeletons, param, shut, under, branch, nil, cons, size}
use Rattle.terms.specs.declared.Terminal.{Terminal as Symbol}
use Rattle.cells.specs.declared.cells.Cell.{Cell}
use Rattle.cells.specs.declared.cells.Cell.TheVariants.{Parameter, Closed, Over, Terminal}

-- how many cells there are: one for each parameter, and four for each right-side node
abbrev pub most_cells : ℕ
most_cells = 4 + 4 * most_nodes

-- what cell c is
abbrev pub cell_at : List Cell → ℕ → Cell
cell_at cells c = get_or cells c (Parameter 0)

abbrev mutual
  -- cell c represents a skeleton: a parameter, a rule of rank 0, a rule of rank 1 over a lower cell, a terminal over lower cells
  pub Stands : List Cell → ℕ → Skeleton → Type 0
  Stands cells c (param i) = cell_at cells c ≡ Parameter i
  Stands cells c (shut a) = cell_at cells c ≡ Closed (record { 0 = a })
  Stands cells c (under d s) = (child : ℕ) × (cell_at cells c ≡ Over (record { 0 = d }) child) × (child < c) × Stands cells child s
  Stands cells c (branch f ss) = (xs : List ℕ) × (cell_at cells c ≡ Terminal (record { 0 = f }) (size ss) xs) × (length xs ≡ 4) × Row cells c xs ss

  -- the first cells of a list represent skeletons, and lie below a limit
  pub Row : List Cell → ℕ → List ℕ → Skeletons → Type 0
  Row cells limit xs nil = Unit {0}
  Row cells limit [] (cons s ss) = ⊥
  Row cells limit (x ∷ xs) (cons s ss) = (x < limit) × Stands cells x s × Row cells limit xs ss

-- the cell is a rule of rank 0
abbrev pub is_closed : Cell → Bool
is_closed (Parameter j) = false
is_closed (Closed a) = true
is_closed (Over a child) = false
is_closed (Terminal f n children) = false

-- what stands for a cell in a slot: the rule of rank 0 that it is, FFFF where it is none
abbrev pub slot_for : Cell → ℕ
slot_for (Parameter j) = unused
slot_for (Closed a) = a.0
slot_for (Over a child) = unused
slot_for (Terminal f n children) = unused

-- the places for children in a terminal's cell: its children first
abbrev pub children_from : List ℕ → List ℕ
children_from xs = xs ++ drop (length xs) (0 ∷ 0 ∷ 0 ∷ 0 ∷ [])

-- the cell of a terminal over cells, of which the first four are kept
abbrev pub terminal_over : Symbol → List ℕ → Cell
terminal_over f xs = Terminal f (min (length xs) 4) (children_from (take 4 xs))
