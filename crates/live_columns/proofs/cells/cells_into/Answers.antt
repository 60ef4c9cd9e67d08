-- A cell is null, and 0 is written; or it has a value, which was decoded.
use Rattle.std.proofs.Common.{ℕ, get_or, pos, ap, ◌∙◌}
use Rattle.table_model.specs.Answer.{whole}
use Rattle.table_model.specs.Condition.{is_null}
use Rattle.transpose_order.specs.Mask.{has}
use Rattle.transpose_order.specs.MaskWords.{has-rows_of}
use Rattle.query_eval.specs.Vector.{cell_at, vector_of}
use Rattle.live_columns.proofs.CellSteps.{number-cleared}
use Rattle.live_columns.proofs.cells.cells_into.Goals as goal

pub returns-clause-numbers : goal.returns-clause-numbers
returns-clause-numbers g c = λ n l.
    let v = vector_of (g.C.Columns.seen c.args.columns.now).state c.args.id in
    number-cleared (cell_at v c.args.column n) (has c.nulls-nulls.result n) (get_or c.decode_into.new.values n (pos 0)) (get_or c.clear_rows.new.numbers n (pos 0))
    (ap (λ m. has m n) c.nulls-nulls.ensures ∙ has-rows_of (λ k. is_null (whole (cell_at v c.args.column k))) n l) (λ z is. c.decode_into.ensures.values n z l is) (c.clear_rows.ensures n l)
