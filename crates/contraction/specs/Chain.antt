-- A rule of rank 1 over what a cell represents.
use Rattle.std.specs.Prelude.{◌≡◌, List, ℕ, ◌<◌, length}
use Rattle.terms.specs.Form.{Rule}
use Rattle.skeletons.specs.Skeleton.{Skeleton}
use Rattle.skeletons.specs.Make.{contract_chain}
use Rattle.form_writing.specs.Bytes.{Holds}
use Rattle.cells.specs.Cells.{Stands}
use Rattle.cells.specs.Builder.{Grown, Stood}
use Rattle.cells.specs.declared.builder.FormBuilder.{FormBuilder}

-- a step of rank-1 rule c over a cell is that of the model
pub record ChainContracted (b : FormBuilder) (c cell : ℕ) (b' : FormBuilder) (made : ℕ) : Type 0 where
  pub grown : Grown 1 1 b b'
  pub lower : made < b'.next_cell
  pub stood : (rs : List Rule) (s : Skeleton) → Holds b.table.now rs → b.next_rule.0 ≡ length rs → Stands b.cells cell s → Stood (contract_chain rs c s) b' made
