-- One column more.
use Rattle.query_eval.proofs.SliceLemmas.{unchanged_next}
use Rattle.query_eval.proofs.grouping.slices.changes_in.Goals as goal

pub loop-column-preserved : goal.loop-column-preserved
loop-column-preserved c = λ n l off.
    unchanged_next n c.loop-column.column-index c.args.columns.now c.column-item.result c.loop-column.changes c.changes.result c.or-changes.result l c.loop-column-test.true c.column-item.is (c.loop-column.invariant n l) (c.changes.ensures n l) c.or-changes.ensures off
