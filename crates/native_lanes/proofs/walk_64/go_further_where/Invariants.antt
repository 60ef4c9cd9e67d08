-- the lanes before lane i are taken further, the others are as they were
use Rattle.std.proofs.Common.{◌≡◌, ◌==◌, ℕ, ◌<◌, ◌≤◌, cond, length, slice_index}
use Rattle.std.specs.Int.{bit_at}
use Rattle.native_lanes.specs.Walks.{further}
use Rattle.native_lanes.proofs.walk_64.go_further_where.Given as goal

abbrev pub invariant-loop-i : goal.invariant-loop-i
invariant-loop-i l = record {
  long : length l.furthest ≡ 16;
  done : (k : ℕ) → k < l.i → slice_index l.furthest k
      ≡ cond (bit_at (slice_index l.rows k) l.step == 1) (further l.flipped (slice_index l.initial.furthest k) (slice_index l.numbers k)) (slice_index l.initial.furthest k);
  rest : (k : ℕ) → l.i ≤ k → slice_index l.furthest k ≡ slice_index l.initial.furthest k;
}
