-- the lanes before lane i are marked, the others are as they were
use Rattle.std.proofs.Common.{◌≡◌, ◌==◌, ℕ, ◌+◌, ◌%◌, ◌^◌, ◌<◌, ◌≤◌, ◌&&◌, ◌||◌, nat_le, length, slice_index}
use Rattle.std.specs.Int.{bit_at}
use Rattle.native_lanes.proofs.native_16.mark.Given as goal

abbrev pub invariant-loop-i : goal.invariant-loop-i
invariant-loop-i l = record {
  long : length l.marks ≡ 64;
  marked : (k r : ℕ) → k < l.i → r < 16 → (bit_at (slice_index l.marks k) r == 1) ≡ ((nat_le ((slice_index l.numbers k + l.offset) % 2 ^ 16) l.span && (r == l.step)) || (bit_at (slice_index l.initial.marks k) r == 1));
  rest : (k : ℕ) → l.i ≤ k → slice_index l.marks k ≡ slice_index l.initial.marks k;
}
