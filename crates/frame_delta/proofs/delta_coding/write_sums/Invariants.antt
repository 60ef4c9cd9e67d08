-- The rows of the pieces so far hold their values, and within a lane the sums stand at the step before.
use Rattle.std.proofs.Common.{◌≡◌, ◌≢◌, ℕ, suc, ◌+◌, ◌*◌, ◌/◌, ◌%◌, ◌<◌, pos, ◌+ℤ◌, map, length, slice_index}
use Rattle.std.specs.Int.{int_wrap}
use Rattle.transpose_order.specs.Place.{place_of}
use Rattle.bit_interleave.specs.Arithmetic.{integer_width}
use Rattle.bit_interleave.specs.Packing.{packed_value}
use Rattle.bit_interleave.specs.Range.{value_at}
use Rattle.frame_delta.specs.Delta.{sum_to}
use Rattle.frame_delta.proofs.delta_coding.write_sums.Given as goal

abbrev pub invariant-loop-block : goal.invariant-loop-block
invariant-loop-block g l = record {
  long : length l.values ≡ 1024;
  sums_long : length l.sums ≡ 16;
  sums : 4 * l.block % l.bits ≢ 0 → (i : ℕ) → i < 16 → int_wrap (integer_width l.bits) (pos (slice_index l.sums i)) ≡ int_wrap (integer_width l.bits) (value_at l.bases.values (16 * (4 * l.block / l.bits) + i) +ℤ sum_to (4 * l.block % l.bits) (λ s. l.least +ℤ pos (packed_value l.bits l.width (map g.U.LaneWord.number l.words) (16 * (4 * l.block / l.bits) + i) s)));
  done : (q i : ℕ) → q < 4 * l.block → i < 16 → value_at l.values (64 * i + place_of l.bits q) ≡ int_wrap (integer_width l.bits) (value_at l.bases.values (16 * (q / l.bits) + i) +ℤ sum_to (suc (q % l.bits)) (λ s. l.least +ℤ pos (packed_value l.bits l.width (map g.U.LaneWord.number l.words) (16 * (q / l.bits) + i) s)));
}
