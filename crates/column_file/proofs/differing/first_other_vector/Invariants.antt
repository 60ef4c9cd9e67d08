-- The vectors so far are canonical.
use Rattle.std.proofs.Common.{◌≡◌, [], take, slice_index_or}
use Rattle.segment_core.specs.Segment.{canonical_vectors}
use Rattle.column_file.proofs.differing.first_other_vector.Given as goal

abbrev pub invariant-loop-vector : goal.invariant-loop-vector
invariant-loop-vector l = take l.vector (canonical_vectors (slice_index_or l.segment.forms l.column [])) ≡ take l.vector (slice_index_or l.segment.forms l.column [])
