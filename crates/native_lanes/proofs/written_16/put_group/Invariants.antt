-- the rows of the lanes before i are written, the others are as they were
use Rattle.std.proofs.Common.{◌≡◌, ◌≢◌, ℕ, ◌+◌, ◌*◌, ◌^◌, ◌%◌, ◌<◌, length, slice_index, pos, ◌+ℤ◌}
use Rattle.bit_interleave.specs.Range.{value_at}
use Rattle.native_lanes.proofs.written_16.put_group.Given as goal

abbrev pub invariant-loop-i : goal.invariant-loop-i
invariant-loop-i l = record {
  long : length l.values ≡ 1024;
  written : (k : ℕ) → k < l.i → pos (slice_index l.numbers (16 * l.group + k)) ≡ value_at l.values (64 * k + l.place) +ℤ pos (2 ^ 15);
  others : (n : ℕ) → n % 64 ≢ l.place → value_at l.values n ≡ value_at l.initial.values n;
}
