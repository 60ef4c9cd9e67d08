-- One segment more is counted.
use Rattle.std.proofs.Common.{◌∙◌, ap, arith}
use Rattle.table_model.specs.declared.names.BatchName.{BatchName}
use Rattle.transpose_order.specs.Mask.{count_below}
use Rattle.replica_reports.specs.Counts.{is_live_at}
use Rattle.replica_changes.proofs.DeletionsCounted.{deleted_then}
use Rattle.replica_changes.proofs.load.count_deleted.Goals as goal

pub loop-index-preserved : goal.loop-index-preserved
loop-index-preserved c =
    let at = c.loop-index.index in
    let rows = c.rows-rows.result in
    let s = c.index-segments-index.result in
    record {
      counted = deleted_then c.args.tombs.now c.args.first c.args.first.number.0 at c.args.segments.now s rows c.live_count-live.result c.loop-index.count _ (omega (arith, c.loop-index-test.true)) c.index-segments-index.is c.rows-rows.ensures.count (c.live_count-live.ensures.count ∙ ap (λ (n : BatchName). count_below (is_live_at c.args.tombs.now n rows) rows) c.name_after.ensures) c.loop-index.invariant.counted;
      below = omega (arith, c.loop-index.invariant.below, c.rows-rows.ensures.form.limit, c.live_count-live.ensures.few);
    }
