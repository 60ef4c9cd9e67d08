-- The least form of values that are all the same: that value as the reference, and no words.
use Rattle.std.proofs.Common.{◌≡◌, ℕ, ◌*◌, ◌/◌, ◌%◌, ◌<◌, ℤ, true, List, [], map, refl, sym, ap, ◌∙◌, arith}
use Rattle.std.specs.List.{range_with_len}
use Rattle.std.specs.Int.{int_gap}
use Rattle.bit_interleave.specs.Arithmetic.{least_width}
use Rattle.bit_interleave.specs.Packing.{packed, packed_word}
use Rattle.bit_interleave.specs.Range.{value_at}
use Rattle.bit_interleave.proofs.LeastWidthLemmas.{least_width_is}
use Rattle.frame_delta.specs.Frame.{FrameForm, least_value, greatest_value, frame_width, gaps_above, least_frame}
use Rattle.frame_delta.proofs.FramedLemmas.{least_is_at, greatest_is_at}
use Rattle.frame_delta.proofs.FrameLemmas.{least_value_is, greatest_value_is, frame_width_is, frame_from_parts}
use Rattle.frame_delta.proofs.GapLemmas.{gap_of_self}

packed_none : (t : ℕ) (numbers : List ℕ) → [] ≡ packed t 0 numbers
unfolding packed
packed_none t numbers =
    let none : 0 ≡ 0 * (1024 / t) = omega arith in
    ap (λ n. map (λ i. packed_word t 0 numbers (i % (1024 / t)) (i / (1024 / t))) (range_with_len 0 n)) none

module _ (values : List ℤ) (value : ℤ) (same : (n : ℕ) → n < 1024 → value_at values n ≡ value) where
  least_same : least_value values ≡ value
  least_same = let at = least_is_at (λ _. true) (value_at values) 0 refl (omega arith) in least_value_is values ∙ at.is ∙ same at.place at.within

  greatest_same : greatest_value values ≡ value
  greatest_same = let at = greatest_is_at (λ _. true) (value_at values) 0 refl (omega arith) in greatest_value_is values ∙ at.is ∙ same at.place at.within

  pub width_same : frame_width values ≡ 0
  unfolding lib.Count.count_leading_zeros
  width_same =
      let gap : int_gap (least_value values) (greatest_value values) ≡ 0 = rw (least_same, greatest_same) (gap_of_self value) in
      frame_width_is values ∙ ap least_width gap ∙ least_width_is 0

  pub frame_same : (t : ℕ) → record { lane_width = t; width = 0; reference = value; words = record { lane_width = t; numbers = [] } } ≡ least_frame t values
  frame_same t =
      let form : FrameForm = record { lane_width = t; width = 0; reference = value; words = record { lane_width = t; numbers = [] } } in
      frame_from_parts form t values (gaps_above value values) refl (λ i. record { lane_width = t; numbers = packed_none t (gaps_above value values) i }) (sym width_same) (sym least_same) refl
