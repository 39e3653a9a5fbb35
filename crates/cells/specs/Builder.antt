-- What the steps of form making add to the form's table and the cells, and what they make.
use Rattle.std.specs.Prelude.{◌≡◌, ℕ, ◌+◌, ◌*◌, ◌≤◌, ◌<◌, length, get_or}
use Rattle.terms.specs.FormBytes.{rule_length}
use Rattle.skeletons.specs.Skeleton.{param}
use Rattle.skeletons.specs.Make as model
use Rattle.form_bytes.specs.declared.rule.FormRule.{FormRule}
use Rattle.form_writing.specs.Bytes.{Holds, RuleWritten}
use Rattle.cells.specs.Cells.{most_cells, cell_at, Stands}
use Rattle.cells.specs.declared.cells.Cell.{Cell}
use Rattle.cells.specs.declared.builder.FormBuilder.{FormBuilder}

-- there is no rule yet, and the first cells represent the parameters
pub record Begun (b : FormBuilder) : Type 0 where
  pub rule : b.next_rule.0 ≡ 0
  pub cell : b.next_cell ≡ 4
  pub parameters : (j : ℕ) → j < 4 → Stands b.cells j (param j)

-- a rule is added, and has the number
pub record RuleAdded (rule : FormRule) (b : FormBuilder) (number : ℕ) (b' : FormBuilder) : Type 0 where
  pub numbered : number ≡ b.next_rule.0
  pub next : b'.next_rule.0 ≡ b.next_rule.0 + 1
  pub written : RuleWritten b.next_rule.0 rule b'.table.now b.table.now
  pub cells : b'.cells ≡ b.cells
  pub cell : b'.next_cell ≡ b.next_cell
  pub lent : b'.table.ghost_name ≡ b.table.ghost_name

-- a cell is added, and has the number
pub record CellAdded (cell : Cell) (b : FormBuilder) (number : ℕ) (b' : FormBuilder) : Type 0 where
  pub numbered : number ≡ b.next_cell
  pub next : b'.next_cell ≡ b.next_cell + 1
  pub there : cell_at b'.cells b.next_cell ≡ cell
  pub below : (c : ℕ) → c < b.next_cell → cell_at b'.cells c ≡ cell_at b.cells c
  pub rule : b'.next_rule ≡ b.next_rule
  pub table : b'.table.now ≡ b.table.now
  pub lent : b'.table.ghost_name ≡ b.table.ghost_name

-- there is room for so many rules and cells
pub record Room (rules cells : ℕ) (b : FormBuilder) : Type 0 where
  pub fits : rule_length * (b.next_rule.0 + rules) ≤ length b.table.now
  pub numbers : b.next_rule.0 + rules < 65536
  pub left : b.next_cell + cells ≤ most_cells

-- at most so many rules and cells are added, and what was there is kept
pub record Grown (rules cells : ℕ) (b b' : FormBuilder) : Type 0 where
  pub lent : b'.table.ghost_name ≡ b.table.ghost_name
  pub long : length b'.table.now ≡ length b.table.now
  pub more-rules : b.next_rule.0 ≤ b'.next_rule.0
  pub few-rules : b'.next_rule.0 ≤ b.next_rule.0 + rules
  pub more-cells : b.next_cell ≤ b'.next_cell
  pub few-cells : b'.next_cell ≤ b.next_cell + cells
  pub behind : (k : ℕ) → rule_length * b'.next_rule.0 ≤ k → get_or b'.table.now k 0 ≡ get_or b.table.now k 0
  pub below : (c : ℕ) → c < b.next_cell → cell_at b'.cells c ≡ cell_at b.cells c

-- the table holds the rules that a step of the model makes, and the cell represents the skeleton that it makes
pub record Stood (m : model.Made) (b : FormBuilder) (cell : ℕ) : Type 0 where
  pub held : Holds b.table.now m.rules
  pub counted : b.next_rule.0 ≡ length m.rules
  pub lower : cell < b.next_cell
  pub stands : Stands b.cells cell m.made
