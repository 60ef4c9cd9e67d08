-- The least and the greatest of the lanes so far.
use Rattle.std.proofs.Common.{◌≡◌, ℕ, ◌<◌, ◌≤◌, slice_index}
use Rattle.frame_delta.proofs.spans.LaneSpread.spread.Given as goal

abbrev pub invariant-loop-i : goal.invariant-loop-i
invariant-loop-i l = record {
  low : (k : ℕ) → k < l.i → l.least ≤ slice_index l.self.least k;
  high : (k : ℕ) → k < l.i → slice_index l.self.greatest k ≤ l.greatest;
  low_reached : (k : ℕ) × (k < 16) × (l.least ≡ slice_index l.self.least k);
  high_reached : (k : ℕ) × (k < 16) × (l.greatest ≡ slice_index l.self.greatest k);
}
