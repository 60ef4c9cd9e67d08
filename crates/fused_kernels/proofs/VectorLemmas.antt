-- A vector's lanes are lanes, and their pieces have its values.
use Rattle.std.proofs.Common.{◌≡◌, ℕ, ◌+◌, ◌*◌, ◌%◌, ◌<◌, ℤ, pos, List, map, to_z, slice_index, FitsSigned, inl, inr, refl, sym, ap, ◌∙◌, subst, arith}
use Rattle.std.specs.Int.{w64, int_wrap, cast_unsigned}
use Rattle.std.specs.List.{All}
use Rattle.std.proofs.lemmas.List.Elements.{All-get_or, All-from_get_or}
use Rattle.transpose_order.specs.Place.{IsLaneWidth, lane_of, place_of}
use Rattle.bit_interleave.specs.Arithmetic.{integer_width}
use Rattle.bit_interleave.specs.Packing.{sixteen_of}
use Rattle.bit_interleave.specs.Range.{value_at}
use Rattle.bit_interleave.proofs.SixteenLemmas.{sixteen_of-like}
use Rattle.bit_interleave.proofs.WrapLemmas.{fits_wide}
use Rattle.frame_delta.specs.Delta.{DeltaForm, delta_at, delta_value, AreSums}
use Rattle.frame_delta.proofs.PieceRows.{row_of_piece, read_back}
use Rattle.segment_core.specs.Coded.{value_in, values_of, lane_width_of, IsCodedForm}
use Rattle.segment_core.specs.CodedVector.{VectorForm, IsVector}
use Rattle.segment_core.specs.declared.coded.Coded.{Coded}
use Rattle.segment_core.specs.declared.coded.Coded.TheVariants.{For, Delta, Runs, Dict}
use Rattle.segment_core.proofs.CodedLemmas.{length-values_of, value_at-values_of, AreInRange-values_of}
use Rattle.segment_core.proofs.VectorLemmas.{lane_width_is}
use Rattle.fused_kernels.specs.Seen.{AreLanes, next_of}
use Rattle.fused_kernels.specs.VectorSeen.{piece_width, vector_seen}

pub piece_width_is : (c : Coded) → IsCodedForm c → IsLaneWidth (piece_width c)
piece_width_is (For form) is = is.lane_width
piece_width_is (Delta form) is = is.lane_width
piece_width_is (Runs form) is = is.lane_width
piece_width_is (Dict form) is = inr (inl refl)

pub values_fit : (c : Coded) → IsCodedForm c → All (λ value. FitsSigned w64 value) (values_of c)
values_fit c is =
    All-from_get_or (λ value. FitsSigned w64 value) (values_of c) (pos 0)
    (λ n h. fits_wide (lane_width_of c) (value_at (values_of c) n) (lane_width_is c is) (All-get_or (λ v. FitsSigned (integer_width (lane_width_of c)) v) (values_of c) n (pos 0) h (AreInRange-values_of c is)))

pub vector_is_lanes : (v : VectorForm) (q : ℕ) → IsVector v → AreLanes (vector_seen v q)
vector_is_lanes v q is = record {
  width = piece_width_is v.coded is.form;
  covered = is.limit;
  long = length-values_of v.coded;
  fit = values_fit v.coded is.form;
}

-- the values of rows, at a piece
pub next_of_vector : (v : VectorForm) (q : ℕ) → IsVector v → q < 64 → sixteen_of (λ i. value_in v.coded (64 * i + place_of (piece_width v.coded) q)) ≡ next_of (vector_seen v q)
next_of_vector v q is h =
    let t = piece_width v.coded in
    sixteen_of-like (λ i. value_in v.coded (64 * i + place_of t q)) (λ i. value_at (values_of v.coded) (64 * i + place_of t q)) (pos 0)
    (λ i l. sym (value_at-values_of v.coded (64 * i + place_of t q) (row_of_piece t q i (piece_width_is v.coded is.form) h l).0))

-- the sums of a piece wrap to its values
pub sums_are_values : (form : DeltaForm) (q : ℕ) (sums : List ℕ) → IsLaneWidth form.lane_width → q < 64 → AreSums form q sums → (i : ℕ) → i < 16 → int_wrap (integer_width form.lane_width) (pos (slice_index sums i)) ≡ delta_value form (64 * i + place_of form.lane_width q)
unfolding delta_value
sums_are_values form q sums width h are i l =
    let row = row_of_piece form.lane_width q i width h l in
    are.lanes i l ∙ ap (λ lane. delta_at form lane (q % form.lane_width)) (sym row.1)
    ∙ ap (delta_at form (lane_of form.lane_width (64 * i + place_of form.lane_width q))) (sym row.2)

pub value_in_fits : (c : Coded) (n : ℕ) → IsCodedForm c → n < 1024 → FitsSigned w64 (value_in c n)
value_in_fits c n is h =
    subst (λ z. FitsSigned w64 z) (value_at-values_of c n h) (All-get_or (λ value. FitsSigned w64 value) (values_of c) n (pos 0) (omega (arith, length-values_of c)) (values_fit c is))

-- a piece as it is read from its bits
pub piece_read : (c : Coded) (q : ℕ) (lanes : List ℤ) → IsCodedForm c → q < 64 → lanes ≡ sixteen_of (λ i. value_in c (64 * i + place_of (piece_width c) q)) → map (to_z w64) (map (cast_unsigned w64) lanes) ≡ sixteen_of (λ i. value_in c (64 * i + place_of (piece_width c) q))
piece_read c q lanes is h made =
    read_back (λ i. value_in c (64 * i + place_of (piece_width c) q)) lanes made
    (λ i l. value_in_fits c (64 * i + place_of (piece_width c) q) is (row_of_piece (piece_width c) q i (piece_width_is c is) h l).0)
