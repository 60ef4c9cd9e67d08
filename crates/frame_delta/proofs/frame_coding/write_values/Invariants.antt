-- The rows of the pieces so far hold their values.
use Rattle.std.proofs.Common.{◌≡◌, ℕ, ◌+◌, ◌*◌, ◌/◌, ◌%◌, ◌<◌, pos, ◌+ℤ◌, map, length}
use Rattle.std.specs.Int.{int_wrap}
use Rattle.transpose_order.specs.Place.{place_of}
use Rattle.bit_interleave.specs.Arithmetic.{integer_width}
use Rattle.bit_interleave.specs.Packing.{packed_value}
use Rattle.bit_interleave.specs.Range.{value_at}
use Rattle.frame_delta.proofs.frame_coding.write_values.Given as goal

abbrev pub invariant-loop-block : goal.invariant-loop-block
invariant-loop-block g l = record {
  long : length l.values ≡ 1024;
  done : (q i : ℕ) → q < 4 * l.block → i < 16 → value_at l.values (64 * i + place_of l.bits q) ≡ int_wrap (integer_width l.bits) (l.reference +ℤ pos (packed_value l.bits l.width (map g.U.LaneWord.number l.words) (16 * (q / l.bits) + i) (q % l.bits)));
}
