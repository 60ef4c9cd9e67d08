-- The lanes so far stand at their rows, and other rows are as they were.
use Rattle.std.proofs.Common.{◌≡◌, ◌≢◌, ℕ, ◌+◌, ◌*◌, ◌%◌, ◌<◌, map, length, slice_index}
use Rattle.bit_interleave.proofs.unpacking.put_piece.Given as goal

abbrev pub invariant-loop-i : goal.invariant-loop-i
invariant-loop-i g l = record {
  long : length l.values ≡ 1024;
  written : (k : ℕ) → k < l.i → slice_index (map g.V.LaneWord.number l.values) (64 * k + l.place) ≡ slice_index l.numbers k;
  others : (n : ℕ) → n % 64 ≢ l.place → slice_index (map g.V.LaneWord.number l.values) n ≡ slice_index (map g.V.LaneWord.number l.initial.values) n;
}
