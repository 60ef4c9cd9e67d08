-- The rows of the batches before this one are counted.
use Rattle.std.proofs.Common.{◌≡◌, ◌≤◌, ◌+◌, ◌*◌, drop}
use Rattle.replica_store.specs.Replica.{entries_of}
use Rattle.replica_store.specs.Forgets.{batches_of, row_count}
use Rattle.replica_store.proofs.store.Store.rows.Given as goal

abbrev pub invariant-loop-index : goal.invariant-loop-index
invariant-loop-index l = record {
  counted : l.rows + row_count (batches_of (drop l.index (entries_of l.self.replica))) ≡ row_count (batches_of (entries_of l.self.replica));
  below : l.rows ≤ l.index * 65536;
}
