use Rattle.std.proofs.Common.{◌≡◌, ◌++◌, take}
use Rattle.std.specs.List.{flat_map}
use Rattle.csv_rows.specs.Written.{cell_text}
use Rattle.csv_rows.proofs.RowTexts.{comma}
use Rattle.csv_rows.proofs.writer.push_more_cells.Given as goal

abbrev pub invariant-loop-cell : goal.invariant-loop-cell
invariant-loop-cell l = l.out.items ≡ l.initial.out.items ++ flat_map (comma cell_text) (take l.cell-index l.cells)
