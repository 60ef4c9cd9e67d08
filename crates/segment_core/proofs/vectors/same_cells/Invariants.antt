-- The vectors so far have the same cells.
use Rattle.std.proofs.Common.{◌≡◌, ℕ, ◌<◌, slice_get, Some}
use Rattle.segment_core.specs.CodedVector.{VectorForm, cells_of}
use Rattle.segment_core.proofs.vectors.same_cells.Given as goal

abbrev pub invariant-loop-k : goal.invariant-loop-k
invariant-loop-k l = (j : ℕ) (v w : VectorForm) → j < l.k → slice_get l.vectors j ≡ Some v → slice_get l.others j ≡ Some w → cells_of v ≡ cells_of w
