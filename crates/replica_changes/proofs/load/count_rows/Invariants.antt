-- The rows of the segments before this one are counted.
use Rattle.std.proofs.Common.{◌≡◌, ◌≤◌, ◌+◌, ◌*◌, drop}
use Rattle.replica_store.specs.Forgets.{row_count}
use Rattle.replica_changes.specs.Loads.{batches_in}
use Rattle.replica_changes.proofs.load.count_rows.Given as goal

abbrev pub invariant-loop-index : goal.invariant-loop-index
invariant-loop-index l = record {
  counted : l.count + row_count (batches_in (drop l.index l.segments)) ≡ row_count (batches_in l.segments);
  below : l.count ≤ l.index * 65536;
}
