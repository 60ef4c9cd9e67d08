-- The columns so far are canonical.
use Rattle.std.proofs.Common.{◌≡◌, ℕ, ◌<◌, List, slice_get, Some}
use Rattle.segment_core.specs.CodedVector.{VectorForm}
use Rattle.segment_core.specs.Segment.{AreCanonical}
use Rattle.segment_core.proofs.segment.are_canonical.Given as goal

abbrev pub invariant-loop-column : goal.invariant-loop-column
invariant-loop-column l = (c : ℕ) (vectors : List VectorForm) → c < l.column → slice_get l.columns c ≡ Some vectors → AreCanonical vectors
