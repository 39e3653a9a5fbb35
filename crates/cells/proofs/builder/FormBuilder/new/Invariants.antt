-- `cells::builder::FormBuilder::new` meets its contract. The invariant: the cells below j are parameters.
use Rattle.std.proofs.Common.{◌≡◌, ◌<◌, length, ℕ}
use Rattle.cells.specs.Cells.{most_cells, cell_at}
use Rattle.cells.specs.declared.cells.Cell.TheVariants.{Parameter}
use Rattle.cells.proofs.builder.FormBuilder.new.Given as goal

abbrev pub invariant-loop-j : goal.invariant-loop-j
invariant-loop-j l = record {
  all_cells : length l.cells ≡ most_cells;
  parameters : (k : ℕ) → k < l.j → cell_at l.cells k ≡ Parameter k;
}
