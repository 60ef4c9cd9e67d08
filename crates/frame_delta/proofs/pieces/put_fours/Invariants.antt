-- The lanes so far stand at their rows, and other rows are as they were.
use Rattle.std.proofs.Common.{◌≡◌, ◌≢◌, ℕ, ◌+◌, ◌*◌, ◌/◌, ◌%◌, ◌<◌, pos, length, slice_index}
use Rattle.std.specs.Int.{int_wrap}
use Rattle.bit_interleave.specs.Arithmetic.{integer_width}
use Rattle.bit_interleave.specs.Range.{value_at}
use Rattle.frame_delta.proofs.pieces.put_fours.Given as goal

abbrev pub invariant-loop-k : goal.invariant-loop-k
invariant-loop-k l = record {
  long : length l.values ≡ 1024;
  written : (m : ℕ) → m < l.k → value_at l.values (256 * l.part + 64 * (m / 4) + 4 * l.places + m % 4) ≡ int_wrap (integer_width l.lane_width) (pos (slice_index l.numbers m));
  parts : (n : ℕ) → n / 256 ≢ l.part → value_at l.values n ≡ value_at l.initial.values n;
  others : (n : ℕ) → n % 64 / 4 ≢ l.places → value_at l.values n ≡ value_at l.initial.values n;
}
