-- The rows are counted, or the column's values taken in.
use Rattle.std.proofs.Common.{◌≡◌, ◌≤◌, length, List, sym, ap, subst, ◌∙◌, arith, ◌++◌}
use Rattle.table_model.specs.Table.{Table, ColumnShape}
use Rattle.query_eval.specs.Grouping.{IsHeld}
use Rattle.query_eval.specs.Kept.{rows_at}
use Rattle.query_eval.specs.Vector.{vector_at}
use Rattle.query_eval.specs.declared.tallies.aggregate.Aggregate.{Aggregate}
use Rattle.query_eval.proofs.ColumnLemmas.{length-rows_at}
use Rattle.query_eval.proofs.Missing.{missing_cell}
use Rattle.query_eval.proofs.TakenLemmas.{held_rows, held_values, held_missing}
use Rattle.query_eval.proofs.tallies.whole_tallies.take_aggregate.Goals as goal

pub returns-in-Rows-clause-held : goal.returns-in-Rows-clause-held
returns-in-Rows-clause-held g c = λ rows h.
    let v = vector_at (g.C.Columns.seen c.args.columns.now).state c.args.kept.now.id.batch c.args.kept.now.id.vector in
    let mask = c.args.kept.now.rows in
    let t = c.args.tally.now in
    let u = c.count_more.new.self in
    let many = c.count.ensures ∙ sym (length-rows_at v mask c.keeps_1024_rows.ensures) in
    subst (λ (a : Aggregate). IsHeld (rows ++ rows_at v mask) a u) (sym c.in-Rows.is)
    (held_rows v mask rows t u c.count.result many (λ values more kind is b. c.count_more.ensures.values values more kind is b) c.count_more.ensures.kind (subst (λ (a : Aggregate). IsHeld rows a t) c.in-Rows.is h))

pub returns-in_ok-take_values-in-Folded-clause-held : goal.returns-in_ok-take_values-in-Folded-clause-held
returns-in_ok-take_values-in-Folded-clause-held g c = λ rows h.
    let v = vector_at (g.C.Columns.seen c.args.columns.now).state c.args.kept.now.id.batch c.args.kept.now.id.vector in
    let mask = c.args.kept.now.rows in
    let t = c.args.tally.now in
    let u = c.take_values.new.tally in
    subst (λ (a : Aggregate). IsHeld (rows ++ rows_at v mask) a u) (sym c.in-Folded.is)
    (held_values v mask _ _ c.in-Folded.place rows t u c.in_ok-take_values-in-Folded.ensures.values c.in_ok-take_values-in-Folded.ensures.kind (subst (λ (a : Aggregate). IsHeld rows a t) c.in-Folded.is h))

pub returns-else-place-column_list-clause-held : goal.returns-else-place-column_list-clause-held
returns-else-place-column_list-clause-held g c = λ rows h.
    let table = (g.C.Columns.seen c.args.columns.now).table in
    let state = (g.C.Columns.seen c.args.columns.now).state in
    let batch = c.args.kept.now.id.batch in
    let vector = c.args.kept.now.id.vector in
    let t = c.args.tally.now in
    let all : length c.column_list.result.now ≡ length table.columns = ap (λ (cs : List ColumnShape). length cs) c.column_list.ensures.list ∙ ap (λ (x : Table). length x.columns) c.schema.ensures in
    let past : length table.columns ≤ c.in-Folded.place = omega (arith, all, c.if-place-column_list.false) in
    subst (λ (a : Aggregate). IsHeld (rows ++ rows_at (vector_at state batch vector) c.args.kept.now.rows) a t) (sym c.in-Folded.is)
    (held_missing (vector_at state batch vector) c.args.kept.now.rows _ _ c.in-Folded.place rows t (λ n q. missing_cell table state c.state_is_within_limits.ensures batch vector n c.in-Folded.place c.requires past) (subst (λ (a : Aggregate). IsHeld rows a t) c.in-Folded.is h))
