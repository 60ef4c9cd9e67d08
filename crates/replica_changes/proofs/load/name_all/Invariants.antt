-- What has its name, before what is left under the names that follow, is all.
use Rattle.std.proofs.Common.{◌≡◌, ◌+◌, ◌++◌, length, reverse}
use Rattle.replica_changes.specs.Loads.{numbered_from, named_batches}
use Rattle.replica_changes.proofs.load.name_all.Given as goal

abbrev pub invariant-loop-segment : goal.invariant-loop-segment
invariant-loop-segment l = record {
  named : l.entries.items ++ numbered_from l.first (l.first.number.0 + length l.entries.items) (reverse l.segments.items) ≡ named_batches l.first l.fn.segments.items;
  count : length l.entries.items + length l.segments.items ≡ length l.fn.segments.items;
}

abbrev pub decreases-loop-segment : goal.decreases-loop-segment
decreases-loop-segment l = length l.segments.items
