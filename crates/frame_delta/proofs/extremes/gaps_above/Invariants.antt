-- The gaps so far.
use Rattle.std.proofs.Common.{◌≡◌, ℕ, ◌<◌, length, slice_index}
use Rattle.std.specs.Int.{int_gap}
use Rattle.bit_interleave.specs.Range.{value_at}
use Rattle.frame_delta.proofs.extremes.gaps_above.Given as goal

abbrev pub invariant-loop-n : goal.invariant-loop-n
invariant-loop-n l = record {
  long : length l.gaps ≡ 1024;
  done : (k : ℕ) → k < l.n → slice_index l.gaps k ≡ int_gap l.reference (value_at l.values k);
}
