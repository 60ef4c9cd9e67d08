-- the lanes before lane i are taken further, the others are as they were
use Rattle.std.proofs.Common.{◌≡◌, ℕ, ◌<◌, ◌≤◌, length, slice_index}
use Rattle.native_lanes.specs.Walks.{further}
use Rattle.native_lanes.proofs.walk_64.go_further.Given as goal

abbrev pub invariant-loop-i : goal.invariant-loop-i
invariant-loop-i l = record {
  long : length l.furthest ≡ 16;
  done : (k : ℕ) → k < l.i → slice_index l.furthest k ≡ further l.flipped (slice_index l.initial.furthest k) (slice_index l.numbers k);
  rest : (k : ℕ) → l.i ≤ k → slice_index l.furthest k ≡ slice_index l.initial.furthest k;
}
