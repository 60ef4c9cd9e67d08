-- The live rows of the batches before this one are counted.
use Rattle.std.proofs.Common.{◌≡◌, ◌≤◌, ◌+◌, ◌*◌, drop}
use Rattle.replica_reports.specs.Counts.{batch_counts}
use Rattle.replica_reports.proofs.CountedBatches.{live_sum}
use Rattle.replica_reports.proofs.batch_counts.live_in.Given as goal

abbrev pub invariant-loop-index : goal.invariant-loop-index
invariant-loop-index l = record {
  counted : l.live + live_sum (drop l.index (batch_counts l.store.replica.state)) ≡ live_sum (batch_counts l.store.replica.state);
  below : l.live ≤ l.index * 65536;
}
