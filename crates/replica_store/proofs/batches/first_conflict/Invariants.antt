-- No batch so far conflicts, so those that are left decide.
use Rattle.std.proofs.Common.{◌≡◌, drop}
use Rattle.replica_store.specs.Segments.{rows_in, conflict_in}
use Rattle.replica_store.proofs.batches.first_conflict.Given as goal

abbrev pub invariant-loop-name : goal.invariant-loop-name
invariant-loop-name l = conflict_in (rows_in l.ours.segments) (drop l.name-index l.theirs) ≡ conflict_in (rows_in l.ours.segments) l.theirs
