-- the lanes before lane i are marked, the others are as they were
use Rattle.std.proofs.Common.{◌≡◌, ◌==◌, ℕ, ◌<◌, ◌≤◌, ◌&&◌, ◌||◌, length, slice_index}
use Rattle.std.specs.Int.{bit_at}
use Rattle.native_lanes.specs.Pairs.{number_passes}
use Rattle.native_lanes.proofs.native_32.mark_beside.Given as goal

abbrev pub invariant-loop-i : goal.invariant-loop-i
invariant-loop-i l = record {
  long : length l.marks ≡ 32;
  marked : (k r : ℕ) → k < l.i → r < 32 → (bit_at (slice_index l.marks k) r == 1) ≡ ((number_passes l.test (slice_index l.numbers k) (slice_index l.others k) && (r == l.step)) || (bit_at (slice_index l.initial.marks k) r == 1));
  rest : (k : ℕ) → l.i ≤ k → slice_index l.marks k ≡ slice_index l.initial.marks k;
}
