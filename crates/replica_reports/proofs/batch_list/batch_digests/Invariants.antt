-- What is told, and the lines of the batches that are left, are the whole list.
use Rattle.std.proofs.Common.{◌≡◌, ◌++◌, drop}
use Rattle.std.specs.List.{flat_map}
use Rattle.replica_store.specs.Replica.{entries_of}
use Rattle.replica_reports.specs.BatchDigests.{digest_line, digest_list}
use Rattle.replica_reports.proofs.batch_list.batch_digests.Given as goal

abbrev pub invariant-loop-place : goal.invariant-loop-place
invariant-loop-place l = l.out.items ++ flat_map (digest_line l.form l.store.replica) (drop l.place (entries_of l.store.replica)) ≡ digest_list l.form l.store.replica
