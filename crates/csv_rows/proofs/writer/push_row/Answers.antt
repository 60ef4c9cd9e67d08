use Rattle.csv_rows.specs.Written.{cell_text}
use Rattle.csv_rows.proofs.RowTexts.{line_written}
use Rattle.csv_rows.proofs.writer.push_row.Goals as goal

pub returns : goal.returns
returns c =
    line_written cell_text c.args.cells.now c.in-Some.first.now c.in-Some.rest.now c.args.out.now.items c.push_cell.new.out.items c.push_more_cells.new.out.items c.extend_from_slice-2.new.self.items
    c.in-Some.ensures.cases.0 c.in_ok-push_cell.ensures c.in_ok-push_more_cells.ensures c.in_ok-extend_from_slice.ensures.items
