-- No batch so far conflicts, so those that are left decide.
use Rattle.std.proofs.Common.{◌≡◌, drop}
use Rattle.table_model.specs.State.{union_of}
use Rattle.replica_store.specs.Segments.{rows_in, conflict_in}
use Rattle.replica_store.proofs.batches.conflict_in_either.Given as goal

abbrev pub invariant-loop-name : goal.invariant-loop-name
invariant-loop-name l = conflict_in (union_of (rows_in l.ours.segments) (rows_in l.more.segments)) (drop l.name-index l.theirs) ≡ conflict_in (union_of (rows_in l.ours.segments) (rows_in l.more.segments)) l.theirs
