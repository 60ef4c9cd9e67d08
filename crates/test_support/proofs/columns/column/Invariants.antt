-- Each value so far fits.
use Rattle.std.proofs.Common.{◌≡◌, ℕ, ◌<◌, length}
use Rattle.std.specs.Int.RustNames.{FitsSigned}
use Rattle.bit_interleave.specs.Arithmetic.{integer_width}
use Rattle.bit_interleave.specs.Range.{value_at}
use Rattle.test_support.proofs.columns.column.Given as goal

abbrev pub invariant-loop-row : goal.invariant-loop-row
invariant-loop-row l = record {
  long : length l.values ≡ 1024;
  fit : (k : ℕ) → k < l.row → FitsSigned (integer_width l.lane_width) (value_at l.values k);
}
