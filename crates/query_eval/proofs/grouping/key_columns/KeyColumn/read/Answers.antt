-- Nulls by the null mask, the others by the decoding; a place past the last column has no value.
use Rattle.std.proofs.Common.{◌≡◌, ◌≤◌, length, List, Some, None, cond, get_or, pos, true, sym, ap, arith, ◌∙◌}
use Rattle.table_model.specs.Table.{Table, ColumnShape}
use Rattle.transpose_order.specs.Mask.{has}
use Rattle.transpose_order.specs.MaskWords.{has-rows_of}
use Rattle.query_eval.specs.Vector.{vector_at}
use Rattle.query_eval.proofs.DecodedLemmas.{decoded_cell}
use Rattle.query_eval.proofs.Missing.{missing_cell}
use Rattle.query_eval.proofs.grouping.key_columns.KeyColumn.read.Goals as goal

pub returns-then-place-column_list-clause-value : goal.returns-then-place-column_list-clause-value
returns-then-place-column_list-clause-value g c =
    let v = vector_at (g.C.Columns.seen c.args.columns.now).state c.args.id.batch c.args.id.vector in
    decoded_cell v c.args.place _ _ c.nulls-self.ensures c.decode_into.ensures.values

pub returns-else-place-column_list-clause-value : goal.returns-else-place-column_list-clause-value
returns-else-place-column_list-clause-value g c = λ n h.
    let table = (g.C.Columns.seen c.args.columns.now).table in
    let values = c.args.self.now.values in
    let all : length c.column_list.result.now ≡ length table.columns = ap (λ (l : List ColumnShape). length l) c.column_list.ensures.list ∙ ap (λ (t : Table). length t.columns) c.schema.ensures in
    let past : length table.columns ≤ c.args.place = omega (arith, all, c.if-place-column_list.false) in
    ap (λ m. cond (has m n) None (Some (get_or values n (pos 0)))) c.all-self.ensures
    ∙ ap (λ b. cond b None (Some (get_or values n (pos 0)))) (has-rows_of (λ _. true) n h)
    ∙ sym (missing_cell table (g.C.Columns.seen c.args.columns.now).state c.state_is_within_limits.ensures c.args.id.batch c.args.id.vector n c.args.place c.requires past)
