-- The places of the pieces so far hold their values.
use Rattle.std.proofs.Common.{◌≡◌, ℕ, ◌+◌, ◌*◌, ◌/◌, ◌%◌, ◌<◌, map, length, slice_index}
use Rattle.transpose_order.specs.Place.{place_of}
use Rattle.bit_interleave.specs.Packing.{packed_value}
use Rattle.bit_interleave.proofs.unpacking.unpack_by_places.Given as goal

abbrev pub invariant-loop-piece : goal.invariant-loop-piece
invariant-loop-piece g l = record {
  long : length l.numbers ≡ 1024;
  done : (q i : ℕ) → q < l.piece → i < 16 → slice_index l.numbers (16 * place_of l.bits q + i) ≡ packed_value l.bits l.width (map g.U.LaneWord.number l.words) (16 * (q / l.bits) + i) (q % l.bits);
}
