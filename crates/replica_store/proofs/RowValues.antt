-- The rows of a segment have a cell for each column.
use Rattle.std.specs.Prelude.{◌≡◌, ℕ, suc, ◌<◌, List, [], ◌∷◌, length}
use Rattle.std.proofs.Common.{refl, ap, arith, get_or}
use Rattle.std.proofs.lemmas.List.FromFn.{get_or-map-range_with_len}
use Rattle.segment_core.specs.CodedVector.{VectorForm}
use Rattle.segment_core.specs.Segment.{batch_of, row_of}

pub length-row_of : (forms : List (List VectorForm)) (ordinal : ℕ) → length (row_of forms ordinal) ≡ length forms
length-row_of [] ordinal = refl
length-row_of (vectors ∷ forms) ordinal = ap suc (length-row_of forms ordinal)

pub row-batch_of : (n : ℕ) (forms : List (List VectorForm)) (ordinal : ℕ) → ordinal < n → get_or (batch_of n forms) ordinal [] ≡ row_of forms ordinal
unfolding batch_of
row-batch_of n forms ordinal below = get_or-map-range_with_len (row_of forms) 0 n ordinal ordinal [] below (omega arith)
