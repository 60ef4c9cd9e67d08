-- The deleted rows of the segments before this one are counted.
use Rattle.std.proofs.Common.{◌≡◌, ◌≤◌, ◌+◌, ◌*◌, drop}
use Rattle.replica_changes.specs.Loads.{batches_in, deleted_among, named_batches, numbered_from}
use Rattle.replica_changes.proofs.load.count_deleted.Given as goal

abbrev pub invariant-loop-index : goal.invariant-loop-index
invariant-loop-index l = record {
  counted : l.count + deleted_among l.tombs (numbered_from l.first (l.first.number.0 + l.index) (batches_in (drop l.index l.segments))) ≡ deleted_among l.tombs (named_batches l.first (batches_in l.segments));
  below : l.count ≤ l.index * 65536;
}
