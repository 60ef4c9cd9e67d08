-- The vectors so far are canonical.
use Rattle.std.proofs.Common.{◌≡◌, ℕ, ◌<◌, slice_get, Some}
use Rattle.segment_core.specs.Coded.{lane_width_of}
use Rattle.segment_core.specs.CodedVector.{VectorForm, cells_of, canonical_vector}
use Rattle.segment_core.proofs.vectors.are_canonical.Given as goal

abbrev pub invariant-loop-vector : goal.invariant-loop-vector
invariant-loop-vector l = (j : ℕ) (v : VectorForm) → j < l.vector-index → slice_get l.vectors j ≡ Some v → v ≡ canonical_vector (lane_width_of v.coded) (cells_of v)
