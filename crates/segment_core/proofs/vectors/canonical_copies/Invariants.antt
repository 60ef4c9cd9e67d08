-- The vectors so far are the canonical ones of the vectors so far.
use Rattle.std.proofs.Common.{◌≡◌, take}
use Rattle.segment_core.specs.Segment.{canonical_vectors}
use Rattle.segment_core.proofs.vectors.canonical_copies.Given as goal

abbrev pub invariant-loop-vector : goal.invariant-loop-vector
invariant-loop-vector l = l.made.items ≡ canonical_vectors (take l.vector-index l.vectors)
