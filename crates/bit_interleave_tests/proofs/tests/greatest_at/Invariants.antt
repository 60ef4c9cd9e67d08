-- Each value so far has the width.
use Rattle.std.proofs.Common.{◌≡◌, ℕ, ◌<◌, ◌^◌, length, slice_index}
use Rattle.bit_interleave_tests.proofs.tests.greatest_at.Given as goal

abbrev pub invariant-loop-n : goal.invariant-loop-n
invariant-loop-n l = record {
  long : length l.values ≡ 1024;
  fit : (k : ℕ) → k < l.n → slice_index l.values k < 2 ^ l.width;
}
