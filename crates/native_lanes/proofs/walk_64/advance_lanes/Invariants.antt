-- the lanes before lane i are a step on, the others are as they were
use Rattle.std.proofs.Common.{◌≡◌, ℕ, ◌+◌, ◌%◌, ◌^◌, ◌<◌, ◌≤◌, cond, length, slice_index}
use Rattle.native_lanes.proofs.walk_64.advance_lanes.Given as goal

abbrev pub invariant-loop-i : goal.invariant-loop-i
invariant-loop-i l = record {
  long : length l.numbers ≡ 16;
  done : (k : ℕ) → k < l.i → slice_index l.numbers k ≡ (cond l.carried (slice_index l.initial.numbers k) 0 + l.added + slice_index l.packed k) % 2 ^ 64;
  rest : (k : ℕ) → l.i ≤ k → slice_index l.numbers k ≡ slice_index l.initial.numbers k;
}
