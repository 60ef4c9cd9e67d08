-- The bits of the bases so far.
use Rattle.std.proofs.Common.{◌≡◌, ℕ, ◌+◌, ◌<◌, length, slice_index}
use Rattle.std.specs.Int.{w64, cast_unsigned}
use Rattle.bit_interleave.specs.Range.{value_at}
use Rattle.frame_delta.proofs.delta_coding.base_bits.Given as goal

abbrev pub invariant-loop-i : goal.invariant-loop-i
invariant-loop-i l = record {
  long : length l.numbers ≡ 16;
  done : (k : ℕ) → k < l.i → slice_index l.numbers k ≡ cast_unsigned w64 (value_at l.bases.values (l.at + k));
}
