-- One column more.
use Rattle.query_eval.proofs.SliceLemmas.{like_next}
use Rattle.query_eval.proofs.grouping.slices.rows_like.Goals as goal

pub loop-column-preserved : goal.loop-column-preserved
loop-column-preserved c = λ n l.
    like_next c.args.row n c.loop-column.column-index c.args.mask.now c.loop-column.rows c.rows_like.result c.and-rows.result c.args.columns.now c.column-item.result l c.loop-column-test.true c.column-item.is (c.loop-column.invariant n l) (c.rows_like.ensures n l) c.and-rows.ensures
