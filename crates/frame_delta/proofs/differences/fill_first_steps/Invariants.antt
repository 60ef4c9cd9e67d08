-- The first rows of the lanes so far have the value, and later rows are as they were.
use Rattle.std.proofs.Common.{◌≡◌, ℕ, ◌*◌, ◌<◌, true, length, slice_index_or}
use Rattle.frame_delta.specs.Delta.{is_later}
use Rattle.frame_delta.proofs.differences.fill_first_steps.Given as goal

abbrev pub invariant-loop-lane : goal.invariant-loop-lane
invariant-loop-lane g l = record {
  long : length l.rows ≡ 1024;
  first : (k : ℕ) (other : g.row.T.Denot) → k < l.lane → slice_index_or l.rows (l.lane_width * k) other ≡ l.value;
  later : (n : ℕ) (other : g.row.T.Denot) → is_later l.lane_width n ≡ true → slice_index_or l.rows n other ≡ slice_index_or l.initial.rows n other;
}
