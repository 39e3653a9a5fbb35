-- A terminal over cells: which of them are open, and the rule that it makes.
use Rattle.std.specs.Prelude.{◌≡◌, Bool, true, false, cond, not, ◌&&◌, List, ℕ, suc, ◌+◌, ◌≤◌, ◌<◌, ltb, eqb, length, get_or}
use Rattle.terms.specs.Form.{Rule}
use Rattle.terms.specs.FormBytes.{unused}
use Rattle.skeletons.specs.Skeleton.{Skeletons}
use Rattle.skeletons.specs.Make.{Sort, closed, single, several, sort, contract_terminal}
use Rattle.skeletons.specs.Skeleton.{size}
use Rattle.form_bytes.specs.declared.rule.FormRule.{FormRule}
use Rattle.form_writing.specs.Bytes.{Holds}
use Rattle.cells.specs.Cells.{cell_at, slot_for, Row}
use Rattle.cells.specs.Builder.{Grown, Stood}
use Rattle.cells.specs.declared.builder.FormBuilder.{FormBuilder}
use Rattle.cells.specs.declared.cells.Cell.{Cell}
use Rattle.contraction.specs.declared.contract_terminal.Open.{Open}
use Rattle.contraction.specs.declared.contract_terminal.Open.TheVariants.{Nowhere, At, Several}

-- a child in front of others, closed or open
abbrev pub with_child : Bool → ℕ → Open → Open
with_child true place behind = behind
with_child false place Nowhere = At place
with_child false place (At p) = Several
with_child false place Several = Several

-- at most four cells, which lie below a limit
pub record Children (limit : ℕ) (xs : List ℕ) : Type 0 where
  pub few : length xs ≤ 4
  pub each : (j : ℕ) → j < length xs → get_or xs j 0 < limit

-- what the code finds open is what the model finds, places counted from a number on
abbrev pub Sorted : ℕ → Open → Sort → Type 0
Sorted from Nowhere (closed slots) = Unit {0}
Sorted from Nowhere (single ls s rs) = ⊥
Sorted from Nowhere several = ⊥
Sorted from (At p) (closed slots) = ⊥
Sorted from (At p) (single ls s rs) = p ≡ from + length ls
Sorted from (At p) several = ⊥
Sorted from Several (closed slots) = ⊥
Sorted from Several (single ls s rs) = ⊥
Sorted from Several several = Unit {0}

-- an open child is one of so many
abbrev pub OpenBelow : ℕ → Open → Type 0
OpenBelow rank Nowhere = Unit {0}
OpenBelow rank (At p) = p < rank
OpenBelow rank Several = Unit {0}

-- which of the cells are open
pub record Opens (cells : List Cell) (xs : List ℕ) (r : Open) : Type 0 where
  pub within : OpenBelow (length xs) r
  pub sorted : (limit : ℕ) (ss : Skeletons) → Row cells limit xs ss → size ss ≡ length xs → Sorted 0 r (sort ss)

-- slot j of a terminal's rule over cells
abbrev pub slot_at : List Cell → List ℕ → ℕ → ℕ → ℕ
slot_at cells xs hole j = cond (ltb j (length xs) && not (eqb (suc j) hole)) (slot_for (cell_at cells (get_or xs j 0))) unused

-- the fields of a terminal's rule over cells
abbrev pub fields_over : List Cell → ℕ → ℕ → ℕ → List ℕ → FormRule
fields_over cells kind f hole xs = record {
  kind = kind;
  terminal = record { 0 = f };
  hole = hole;
  slot0 = record { 0 = slot_at cells xs hole 0 };
  slot1 = record { 0 = slot_at cells xs hole 1 };
  slot2 = record { 0 = slot_at cells xs hole 2 };
  slot3 = record { 0 = slot_at cells xs hole 3 };
}

-- a step of a terminal over cells is that of the model, where so many of the cells are open
pub record ContractedWhere (o : Open) (b : FormBuilder) (f : ℕ) (xs : List ℕ) (b' : FormBuilder) (made : ℕ) : Type 0 where
  pub grown : Grown 2 1 b b'
  pub lower : made < b'.next_cell
  pub stood : (rs : List Rule) (ss : Skeletons) → Holds b.table.now rs → b.next_rule.0 ≡ length rs → Row b.cells b.next_cell xs ss → size ss ≡ length xs → Sorted 0 o (sort ss)
      → Stood (contract_terminal rs f ss) b' made

-- a step of a terminal over cells is that of the model
pub record TerminalContracted (b : FormBuilder) (f : ℕ) (xs : List ℕ) (b' : FormBuilder) (made : ℕ) : Type 0 where
  pub grown : Grown 2 1 b b'
  pub lower : made < b'.next_cell
  pub stood : (rs : List Rule) (ss : Skeletons) → Holds b.table.now rs → b.next_rule.0 ≡ length rs → Row b.cells b.next_cell xs ss → size ss ≡ length xs
      → Stood (contract_terminal rs f ss) b' made
