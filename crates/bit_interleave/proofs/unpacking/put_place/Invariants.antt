-- The lanes so far stand at their places, and others are as they were.
use Rattle.std.proofs.Common.{◌≡◌, ◌≢◌, ℕ, ◌+◌, ◌*◌, ◌/◌, ◌<◌, length, slice_index}
use Rattle.bit_interleave.proofs.unpacking.put_place.Given as goal

abbrev pub invariant-loop-i : goal.invariant-loop-i
invariant-loop-i l = record {
  long : length l.numbers ≡ 1024;
  written : (k : ℕ) → k < l.i → slice_index l.numbers (16 * l.place + k) ≡ slice_index l.sixteen k;
  others : (n : ℕ) → n / 16 ≢ l.place → slice_index l.numbers n ≡ slice_index l.initial.numbers n;
}
