-- The columns so far are the canonical ones of the columns so far.
use Rattle.std.proofs.Common.{◌≡◌, map, take}
use Rattle.segment_core.specs.Segment.{canonical_vectors}
use Rattle.segment_core.proofs.segment.canonical_copies.Given as goal

abbrev pub invariant-loop-column : goal.invariant-loop-column
invariant-loop-column l = l.made.items ≡ map canonical_vectors (take l.column-index l.columns)
