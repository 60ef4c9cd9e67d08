-- The numbers so far are the values of their rows.
use Rattle.std.proofs.Common.{◌≡◌, ℕ, ◌+◌, ◌*◌, ◌<◌, length, slice_index}
use Rattle.std.specs.Int.{w64, cast_unsigned}
use Rattle.run_dictionary.specs.Runs.{run_value}
use Rattle.segment_core.proofs.runs.values_of_place.Given as goal

abbrev pub invariant-loop-i : goal.invariant-loop-i
invariant-loop-i l = record {
  long : length l.numbers ≡ 16;
  done : (q : ℕ) → q < l.i → slice_index l.numbers q ≡ cast_unsigned w64 (run_value l.form (64 * q + l.place));
}
