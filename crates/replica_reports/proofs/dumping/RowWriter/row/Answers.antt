-- The line of a row with its name.
use Rattle.std.proofs.Common.{◌≡◌, ◌∙◌, Bool, sym, subst}
use Rattle.table_model.specs.State.{Cells}
use Rattle.csv_rows.specs.Written.{named_row_line}
use Rattle.replica_reports.specs.DumpRooms.{room_cells}
use Rattle.replica_reports.specs.Dumps.{WritesLines, row_text}
use Rattle.replica_reports.proofs.DumpLines.{text_lines}
use Rattle.replica_reports.proofs.dumping.RowWriter.row.Goals as goal

pub returns-then-self-clause-text : goal.returns-then-self-clause-text
returns-then-self-clause-text g c =
    let cells : Cells = room_cells c.args.rooms.now c.args.row in
    let is : c.as_slice.result.now ≡ cells = c.as_slice.ensures.value ∙ c.in_ok-fill_cells.ensures in
    let P : Bool → Type 0 = λ b. WritesLines c.named_row.result (g.W.Write.contents c.args.writer.now.0) (g.W.Write.contents c.named_row.new.writer.0) c.args.writer.now.1 c.named_row.new.writer.1 (row_text b (c.args.name, cells)) in
    let Q : Cells → Type 0 = λ x. WritesLines c.named_row.result (g.W.Write.contents c.args.writer.now.0) (g.W.Write.contents c.named_row.new.writer.0) c.args.writer.now.1 c.named_row.new.writer.1 (named_row_line c.args.name x) in
    subst P (sym c.if-self.true)
    (subst Q is
    (text_lines c.named_row.result (g.W.Write.contents c.args.writer.now.0) (g.W.Write.contents c.named_row.new.writer.0) c.args.writer.now.1 c.named_row.new.writer.1 (named_row_line c.args.name c.as_slice.result.now) c.named_row.ensures))
