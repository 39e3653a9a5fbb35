-- An instance of what a cell represents: its parameters replaced by what other cells represent.
use Rattle.std.specs.Prelude.{◌≡◌, List, ℕ, ◌<◌, length}
use Rattle.terms.specs.Form.{Rule}
use Rattle.skeletons.specs.Skeleton.{Skeleton, Skeletons, param, shut, under, branch, nil, cons, size, weight}
use Rattle.skeletons.specs.Make.{substitute}
use Rattle.skeletons.specs.Make as model
use Rattle.form_writing.specs.Bytes.{Holds}
use Rattle.cells.specs.Cells.{Stands, Row}
use Rattle.cells.specs.Builder.{Room, Grown, Stood}
use Rattle.cells.specs.declared.builder.FormBuilder.{FormBuilder}

-- the parameters of a skeleton are below n
abbrev mutual
  pub Bounded : ℕ → Skeleton → Type 0
  Bounded n (param i) = i < n
  Bounded n (shut a) = Unit {0}
  Bounded n (under c s) = Bounded n s
  Bounded n (branch f ss) = AllBounded n ss

  pub AllBounded : ℕ → Skeletons → Type 0
  AllBounded n nil = Unit {0}
  AllBounded n (cons s ss) = Bounded n s × AllBounded n ss

-- a cell represents a skeleton, the arguments for others, and there is room for the instance
pub record Instance (b : FormBuilder) (xs : List ℕ) (cell : ℕ) : Type 0 where
  pub skeleton : Skeleton
  pub arguments : Skeletons
  pub stands : Stands b.cells cell skeleton
  pub lower : cell < b.next_cell
  pub row : Row b.cells b.next_cell xs arguments
  pub bounded : Bounded (size arguments) skeleton
  pub room : Room (weight skeleton) (weight skeleton) b

-- the step of an instance is that of the model
pub record Instanced (b : FormBuilder) (xs : List ℕ) (cell : ℕ) (b' : FormBuilder) (made : ℕ) : Type 0 where
  pub grown : (s : Skeleton) → Stands b.cells cell s → Grown (weight s) (weight s) b b'
  pub lower : made < b'.next_cell
  pub stood : (rs : List Rule) (s : Skeleton) (ss : Skeletons) → Holds b.table.now rs → b.next_rule.0 ≡ length rs → Stands b.cells cell s → Row b.cells b.next_cell xs ss
      → Bounded (size ss) s → Stood (substitute ss s rs) b' made

-- the table holds the rules that steps of the model make, and the cells represent the skeletons that they make
pub record StoodRow (m : model.Mades) (b : FormBuilder) (ys : List ℕ) : Type 0 where
  pub held : Holds b.table.now m.rules
  pub counted : b.next_rule.0 ≡ length m.rules
  pub row : Row b.cells b.next_cell ys m.made
