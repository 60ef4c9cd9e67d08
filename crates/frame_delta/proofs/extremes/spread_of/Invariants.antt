-- The least and the greatest of the numbers so far.
use Rattle.std.proofs.Common.{◌≡◌, ℕ, ◌<◌, ◌≤◌, slice_index}
use Rattle.frame_delta.proofs.extremes.spread_of.Given as goal

abbrev pub invariant-loop-n : goal.invariant-loop-n
invariant-loop-n l = record {
  low : (k : ℕ) → k < l.n → l.least ≤ slice_index l.numbers k;
  high : (k : ℕ) → k < l.n → slice_index l.numbers k ≤ l.greatest;
  low_reached : (k : ℕ) × (k < 1024) × (l.least ≡ slice_index l.numbers k);
  high_reached : (k : ℕ) × (k < 1024) × (l.greatest ≡ slice_index l.numbers k);
}
