-- The counts are those of the batches, and of the ranges of deleted rows.
use Rattle.std.proofs.Common.{◌∙◌, length, sym, ap}
use Rattle.column_file.proofs.RangeLists.{ranges_are}
use Rattle.replica_reports.proofs.CountedBatches.{rows-named_rows}
use Rattle.replica_reports.proofs.store_counts.store_counts.Goals as goal

pub returns-clause-counts : goal.returns-clause-counts
returns-clause-counts c =
    let s = c.args.store.now.replica.state in
    let ranges = ranges_are c.ranges-2.result.now s.deleted c.ranges-2.ensures.maximal (c.ranges-2.ensures.rows ∙ c.tombs.ensures) in
    record {
      batches = c.batches-batches.ensures.value;
      rows = c.rows-rows.ensures ∙ rows-named_rows s;
      live = c.live_in-live.ensures;
      ranges = sym (ap length ranges);
    }
