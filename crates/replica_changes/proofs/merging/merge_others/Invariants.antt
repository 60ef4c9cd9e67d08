-- The files before this one are read and merged, and the readers from here on are as they were.
use Rattle.replica_changes.proofs.FileMerges.{MergedSoFar}
use Rattle.replica_changes.proofs.ReadersInTurn.{ReadUpTo}
use Rattle.replica_changes.proofs.merging.merge_others.Given as goal

abbrev pub invariant-loop-index : goal.invariant-loop-index
invariant-loop-index g l = record {
  merged : MergedSoFar g.R.Read.remaining l.fn.first.replica l.joined.replica l.initial.readers l.readers l.index;
  read : ReadUpTo g.R.Read.remaining l.index l.initial.readers l.readers;
}
