-- The counts, and then the lines of the columns.
use Rattle.std.proofs.Common.{◌≡◌, ◌∙◌, ◌++◌, List, ℕ, ap}
use Rattle.table_model.specs.Table.{Table}
use Rattle.replica_store.specs.Segments.{StoreForm}
use Rattle.replica_reports.specs.Counts.{counts_text}
use Rattle.replica_reports.specs.ColumnFigures.{column_lines}
use Rattle.replica_reports.specs.Reports.{columns_text}
use Rattle.replica_reports.proofs.report.report.Goals as goal

pub returns-clause-text : goal.returns-clause-text
returns-clause-text c =
    let s : StoreForm = c.args.store.now in
    let counts : c.in_ok-out.out.items ≡ counts_text c.args.form s.replica.schema.name c.in_ok-counts.counts =
    c.in_ok-out.ensures ∙ ap (λ (name : List ℕ). counts_text c.args.form name c.in_ok-counts.counts) (c.table.ensures ∙ ap (λ (t : Table). t.name) c.schema.ensures) in
    let columns : c.as_slice-2.result.now ≡ columns_text c.args.form (column_lines s 0 s.replica.schema.columns) =
    c.as_slice-2.ensures.value ∙ c.in_ok-columns.ensures ∙ ap (columns_text c.args.form) (c.as_slice.ensures.value ∙ c.in_ok-lines.ensures) in
    (c.in_ok-counts.counts, c.in_ok-counts.ensures.counts, c.in_ok-extend_from_slice.ensures.items ∙ (λ i. counts i ++ columns i))
