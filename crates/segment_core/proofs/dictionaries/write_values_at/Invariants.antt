-- The numbers so far are the values at their codes.
use Rattle.std.proofs.Common.{◌≡◌, ℕ, ◌<◌, length, slice_index}
use Rattle.std.specs.Int.{w64, cast_unsigned}
use Rattle.bit_interleave.specs.Range.{value_at}
use Rattle.segment_core.proofs.dictionaries.write_values_at.Given as goal

abbrev pub invariant-loop-k : goal.invariant-loop-k
invariant-loop-k l = record {
  long : length l.numbers ≡ 1024;
  done : (q : ℕ) → q < l.k → slice_index l.numbers q ≡ cast_unsigned w64 (value_at l.dictionary (slice_index l.codes q));
}
