-- The rows of the places so far have their sums, those of the places to come their numbers, and the sums are those of the place before.
use Rattle.std.proofs.Common.{◌≡◌, ◌≢◌, ℕ, ◌+◌, ◌-◌, ◌*◌, ◌%◌, ◌^◌, ◌<◌, ◌≤◌, pos, ◌+ℤ◌, length, slice_index}
use Rattle.std.specs.Int.{int_wrap}
use Rattle.transpose_order.specs.Place.{lane_of}
use Rattle.bit_interleave.specs.Arithmetic.{integer_width}
use Rattle.bit_interleave.specs.Places.{by_place}
use Rattle.bit_interleave.specs.Range.{value_at}
use Rattle.frame_delta.proofs.delta_coding.write_sums_by_places.Given as goal

abbrev pub invariant-loop-row : goal.invariant-loop-row
invariant-loop-row l = record {
  count : length l.sums ≡ 16;
  sums : l.row % l.lane_width ≢ 0 → (i : ℕ) → i < 16 → int_wrap (integer_width l.lane_width) (pos (slice_index l.sums i)) ≡ int_wrap (integer_width l.lane_width) (pos (by_place l.numbers (64 * i + l.row - 1)));
  left : (q : ℕ) → 16 * l.row ≤ q → slice_index l.numbers q ≡ slice_index l.fn.numbers q;
  first : (n : ℕ) → n < 1024 → n % 64 < l.row → n % l.lane_width ≡ 0 → int_wrap (integer_width l.lane_width) (pos (by_place l.numbers n)) ≡ int_wrap (integer_width l.lane_width) (value_at l.bases.values (lane_of l.lane_width n) +ℤ (l.least +ℤ pos (by_place l.fn.numbers n)));
  later : (n : ℕ) → n < 1024 → n % 64 < l.row → n % l.lane_width ≢ 0 → int_wrap (integer_width l.lane_width) (pos (by_place l.numbers n)) ≡ int_wrap (integer_width l.lane_width) (int_wrap (integer_width l.lane_width) (pos (by_place l.numbers (n - 1))) +ℤ (l.least +ℤ pos (by_place l.fn.numbers n)));
  fit : (n : ℕ) → n < 1024 → n % 64 < l.row → by_place l.numbers n < 2 ^ l.lane_width;
}
