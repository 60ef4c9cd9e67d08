-- a row of the pieces so far is marked where its value is in the range
use Rattle.std.proofs.Common.{◌≡◌, ◌==◌, ℕ, ◌+◌, ◌*◌, ◌<◌, ◌&&◌, nat_lt, slice_index}
use Rattle.std.specs.Int.{bit_at}
use Rattle.transpose_order.specs.Place.{place_of}
use Rattle.bit_interleave.specs.Range.{value_at}
use Rattle.fused_kernels.specs.Seen.{given_of, between}
use Rattle.fused_kernels.proofs.ranges.rows_between.Given as goal

abbrev pub invariant-loop-piece : goal.invariant-loop-piece
invariant-loop-piece g l = record {
  seen : g.L.Lanes.seen l.lanes ≡ given_of (g.L.Lanes.seen l.initial.lanes) l.piece;
  marked : (j p : ℕ) → j < 16 → p < 64 → (bit_at (slice_index l.found j) p == 1) ≡ (nat_lt (place_of l.lane_width p) l.piece && between l.low l.high (value_at (g.L.Lanes.seen l.initial.lanes).values (64 * j + p)));
}
