-- the numbers so far are the values' bits
use Rattle.std.proofs.Common.{◌≡◌, ℕ, ◌<◌, length, get_or, FitsSigned}
use Rattle.std.specs.Int.{w64, cast_unsigned}
use Rattle.bit_interleave.specs.Range.{value_at}
use Rattle.run_dictionary.proofs.seen.more_values.Given as goal

abbrev pub invariant-loop-k : goal.invariant-loop-k
invariant-loop-k l = record {
  long : length l.numbers ≡ 1024;
  done : (i : ℕ) → i < l.k → get_or l.numbers i 0 ≡ cast_unsigned w64 (value_at l.values.values i);
  fit : (i : ℕ) → i < l.k → FitsSigned w64 (value_at l.values.values i);
}
