-- The figures are those of the column at the place.
use Rattle.std.proofs.Common.{◌≡◌, ◌∙◌, ap}
use Rattle.std.specs.Prelude.{slice_get}
use Rattle.table_model.specs.Table.{Table}
use Rattle.replica_reports.specs.ColumnFigures.{figure_texts}
use Rattle.replica_reports.proofs.report.column_line.Goals as goal

pub returns : goal.returns
returns c = λ column at.
    let here = ap (λ (t : Table). slice_get t.columns c.args.place) c.schema.ensures in
    let same : c.column.result.now ≡ column = cc in
    c.in_ok-line.ensures ∙ (λ i. figure_texts (same i) (c.in_ok-live.ensures i) (c.parts_of-parts.ensures i) (c.requires.rows i))
