-- The query is that of the column at the place, and its answer is one row of the figures.
use Rattle.std.proofs.Common.{◌≡◌, ◌∙◌, ap, subst, Some, get_or, length, refl, arith}
use Rattle.std.specs.Prelude.{slice_get}
use Rattle.std.proofs.lemmas.Grind.{common_steps}
use Rattle.std.proofs.lemmas.Option.{slice_get_read}
use Rattle.table_model.specs.Answer.{AnswerParts}
use Rattle.table_model.specs.Meaning.{answer_of}
use Rattle.table_model.specs.Query.{QueryShape}
use Rattle.table_model.specs.State.{State}
use Rattle.table_model.specs.Table.{Table, ColumnShape, IsTable}
use Rattle.replica_reports.specs.ColumnFigures.{figure_query}
use Rattle.replica_reports.proofs.FiguresAsked.{placed, figures_answered}
use Rattle.replica_reports.proofs.live_figures.asked.Goals as goal

pub returns : goal.returns
returns g c =
    let table : Table = (g.C.Columns.seen c.args.columns.now).table in
    let state : State = (g.C.Columns.seen c.args.columns.now).state in
    let column : ColumnShape = c.index-column_list-place.result in
    let here : column ≡ get_or c.column_list.result.now c.args.place column = grind (arith, common_steps) in
    let at : slice_get table.columns c.args.place ≡ Some column =
    slice_get_read table.columns (length table.columns) c.args.place column refl c.requires (here ∙ (λ i. get_or (c.column_list.ensures.list i) c.args.place column) ∙ ap (λ (t : Table). get_or t.columns c.args.place column) c.schema-schema.ensures) in
    let proper : IsTable table = subst (λ (t : Table). IsTable t) c.schema-schema.ensures c.column_list.ensures.proper in
    let asks : c.in_ok-query.query ≡ figure_query table.name column.name = c.in_ok-query.ensures ∙ ap (λ (t : Table). figure_query t.name column.name) c.schema-schema.ensures in
    ap (λ (a : AnswerParts). a.rows) (c.in_ok-answer.ensures.value ∙ ap (λ (q : QueryShape). answer_of table q state) asks)
    ∙ figures_answered table state column.name c.args.place (placed table c.args.place column proper at)
