-- The live rows of one batch more are counted; at the end none is left.
use Rattle.std.proofs.Common.{◌≤◌, ◌∙◌, length, arith}
use Rattle.replica_reports.specs.Counts.{batch_counts}
use Rattle.replica_reports.proofs.CountedBatches.{live_next, live_end, live-live_rows, length-batch_counts}
use Rattle.replica_reports.proofs.batch_counts.live_in.Goals as goal

pub loop-index-preserved : goal.loop-index-preserved
loop-index-preserved c =
    let step = live_next (batch_counts c.args.store.now.replica.state) c.loop-index.index c.counts_at-live.result c.counts_at-live.ensures.counts in
    record {
      counted = omega (arith, c.loop-index.invariant.counted, step);
      below = omega (arith, c.loop-index.invariant.below, c.counts_at-live.ensures.few);
    }

pub returns : goal.returns
returns c =
    let s = c.args.store.now.replica.state in
    let end : length (batch_counts s) ≤ c.loop-index.index = omega (arith, length-batch_counts s, c.batches-index-end.ensures.value, c.loop-index-test.false) in
    live_end (batch_counts s) c.loop-index.index c.loop-index.live end c.loop-index.invariant.counted ∙ live-live_rows s
