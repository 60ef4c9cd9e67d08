-- The rows of one batch more are counted; at the end none is left.
use Rattle.std.proofs.Common.{◌≤◌, length, arith}
use Rattle.std.specs.FinMap as map
use Rattle.replica_store.specs.Replica.{entries_of}
use Rattle.replica_store.proofs.ForgetCounts.{rows_next, rows_end}
use Rattle.replica_store.proofs.store.Store.rows.Goals as goal

pub loop-index-preserved : goal.loop-index-preserved
loop-index-preserved c =
    let step = rows_next (entries_of c.args.self.now.replica) c.loop-index.index c.batch.result.0 c.batch.result.1.now.rows c.batch.ensures.value in
    record {
      counted = omega (arith, c.loop-index.invariant.counted, step, c.rows.ensures.count);
      below = omega (arith, c.loop-index.invariant.below, c.rows.ensures.count, c.batch.ensures.fits.limit);
    }

pub returns : goal.returns
returns c =
    let count = map.len-entries c.args.self.now.replica.state.batches in
    let end : length (entries_of c.args.self.now.replica) ≤ c.loop-index.index = omega (arith, count, c.batches-index-end.ensures.value, c.loop-index-test.false) in
    rows_end (entries_of c.args.self.now.replica) c.loop-index.index c.loop-index.rows end c.loop-index.invariant.counted
