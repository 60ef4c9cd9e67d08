-- The differences so far stand at their rows.
use Rattle.std.proofs.Common.{◌≡◌, ℕ, ◌<◌, length}
use Rattle.bit_interleave.specs.Range.{value_at}
use Rattle.frame_delta.specs.Delta.{difference_at}
use Rattle.frame_delta.proofs.differences.all_differences.Given as goal

abbrev pub invariant-loop-row : goal.invariant-loop-row
invariant-loop-row l = record {
  long : length l.differences ≡ 1024;
  done : (k : ℕ) → 0 < k → k < l.row → value_at l.differences k ≡ difference_at l.lane_width l.values k;
}
