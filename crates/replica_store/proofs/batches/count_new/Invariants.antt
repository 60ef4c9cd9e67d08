-- The count so far, and that of the batches that are left, are all.
use Rattle.std.proofs.Common.{◌≡◌, ◌+◌, ◌≤◌, length, drop}
use Rattle.std.specs.FinSet as set
use Rattle.replica_store.specs.Replica.{lacked_by}
use Rattle.replica_store.proofs.batches.count_new.Given as goal

abbrev pub invariant-loop-name : goal.invariant-loop-name
invariant-loop-name l = record {
  counted : l.count + length (lacked_by (set.union l.names l.more) (drop l.name-index l.batches)) ≡ length (lacked_by (set.union l.names l.more) l.batches);
  below : l.count ≤ l.name-index;
}
