-- The numbers so far are the values at their codes.
use Rattle.std.proofs.Common.{◌≡◌, ℕ, ◌+◌, ◌*◌, ◌<◌, length, slice_index}
use Rattle.std.specs.Int.{w64, cast_unsigned}
use Rattle.bit_interleave.specs.Range.{value_at}
use Rattle.segment_core.proofs.dictionaries.values_of_place.Given as goal

abbrev pub invariant-loop-i : goal.invariant-loop-i
invariant-loop-i l = record {
  long : length l.numbers ≡ 16;
  done : (q : ℕ) → q < l.i → slice_index l.numbers q ≡ cast_unsigned w64 (value_at l.dictionary.values (slice_index l.codes (16 * l.place + q)));
}
