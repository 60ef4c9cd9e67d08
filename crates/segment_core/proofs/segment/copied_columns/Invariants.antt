-- The copies so far are those of the columns so far.
use Rattle.std.proofs.Common.{◌≡◌, take}
use Rattle.segment_core.proofs.segment.copied_columns.Given as goal

abbrev pub invariant-loop-column : goal.invariant-loop-column
invariant-loop-column l = l.copied.items ≡ take l.column-index l.columns
