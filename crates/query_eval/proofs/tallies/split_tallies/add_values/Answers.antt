-- What the rows of the split have is what the set function goes over.
use Rattle.std.proofs.Common.{◌≡◌, ◌≤◌, length, List, sym, ap, ◌∙◌, arith, get_or}
use Rattle.table_model.specs.Table.{Table, ColumnShape}
use Rattle.query_eval.specs.Vector.{vector_at}
use Rattle.query_eval.specs.declared.tallies.aggregate.Aggregate.TheVariants.{Folded}
use Rattle.query_eval.proofs.DecodedLemmas.{decoded_cell}
use Rattle.query_eval.proofs.Missing.{missing_cell}
use Rattle.query_eval.proofs.SharedLemmas.{nulls_column, shared_without}
use Rattle.query_eval.proofs.tallies.split_tallies.add_values.Goals as goal

pub returns-then-column_list-column-clause-held : goal.returns-then-column_list-column-clause-held
returns-then-column_list-column-clause-held g c = λ fold distinct is i t taken l h.
    let table = (g.C.Columns.seen c.args.columns.now).table in
    let state = (g.C.Columns.seen c.args.columns.now).state in
    let batch = c.args.kept.now.id.batch in
    let vector = c.args.kept.now.id.vector in
    let all : length c.column_list.result.now ≡ length table.columns = ap (λ (cs : List ColumnShape). length cs) c.column_list.ensures.list ∙ ap (λ (x : Table). length x.columns) c.schema.ensures in
    let past : length table.columns ≤ c.args.column = omega (arith, all, c.if-column_list-column.true) in
    shared_without (vector_at state batch vector) (Folded fold distinct c.args.column) (get_or c.args.tallies.now.items i t)
    (λ n q. missing_cell table state c.state_is_within_limits.ensures batch vector n c.args.column c.requires.there past) c.args.split.now i taken h

pub returns-in-Count-clause-held : goal.returns-in-Count-clause-held
returns-in-Count-clause-held g c = λ fold distinct is.
    let v = vector_at (g.C.Columns.seen c.args.columns.now).state c.args.kept.now.id.batch c.args.kept.now.id.vector in
    c.count_split.ensures.held (Folded fold distinct c.args.column) v (sym is ∙ c.in-Count.is)
    (nulls_column fold distinct v c.args.column c.nulls-nulls.result c.nulls-nulls.ensures)

pub returns-clause-held : goal.returns-clause-held
returns-clause-held g c = λ fold distinct is.
    let v = vector_at (g.C.Columns.seen c.args.columns.now).state c.args.kept.now.id.batch c.args.kept.now.id.vector in
    c.in_ok-add_split.ensures.held (Folded fold distinct c.args.column) v is
    (decoded_cell v c.args.column c.nulls-nulls.result c.decode_into.new.values c.nulls-nulls.ensures c.decode_into.ensures.values)
