-- The batch's live rows are counted by their ordinals.
use Rattle.replica_reports.proofs.CountedBatches.{count_is}
use Rattle.replica_reports.proofs.batch_counts.counts_at.Goals as goal

pub returns-clause-counts : goal.returns-clause-counts
returns-clause-counts c =
    count_is c.args.store.now.replica.state c.tombs.result.now c.args.index c.batch.result.0 c.batch.result.1.now.rows c.rows-rows.result c.live_count-live.result
    c.batch.ensures.value c.rows-rows.ensures.count c.tombs.ensures c.live_count-live.ensures.count
