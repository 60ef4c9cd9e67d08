-- The copies so far are those of the vectors so far.
use Rattle.std.proofs.Common.{◌≡◌, take}
use Rattle.segment_core.proofs.vectors.copied_vectors.Given as goal

abbrev pub invariant-loop-vector : goal.invariant-loop-vector
invariant-loop-vector l = l.copied.items ≡ take l.vector-index l.vectors
