-- The numbers so far are the values of their rows.
use Rattle.std.proofs.Common.{◌≡◌, ℕ, ◌+◌, ◌*◌, ◌/◌, ◌%◌, ◌<◌, length, slice_index}
use Rattle.std.specs.Int.{w64, cast_unsigned}
use Rattle.bit_interleave.specs.Range.{value_at}
use Rattle.segment_core.proofs.numbers.write_by_places.Given as goal

abbrev pub invariant-loop-index : goal.invariant-loop-index
invariant-loop-index l = record {
  long : length l.numbers ≡ 1024;
  done : (q : ℕ) → q < l.index → slice_index l.numbers q ≡ cast_unsigned w64 (value_at l.values (64 * (q % 16) + q / 16));
}
