-- in each lane, the sum of the pieces so far, each half below its bound
use Rattle.std.proofs.Common.{◌≡◌, ℕ, ◌+◌, ◌*◌, ◌^◌, ◌<◌, ◌≤◌, cond, slice_index, pos, ◌+ℤ◌}
use Rattle.transpose_order.specs.Place.{place_of}
use Rattle.transpose_order.specs.Mask.{has}
use Rattle.bit_interleave.specs.Range.{value_at}
use Rattle.native_lanes.specs.Folds.{fold_to}
use Rattle.fused_kernels.specs.Seen.{given_of}
use Rattle.fused_kernels.proofs.sums.sum.Given as goal

abbrev pub invariant-loop-piece : goal.invariant-loop-piece
invariant-loop-piece g l = record {
  seen : g.L.Lanes.seen l.lanes ≡ given_of (g.L.Lanes.seen l.initial.lanes) l.piece;
  low : (i : ℕ) → i < 16 → slice_index l.low i ≤ 2 ^ 32 * l.piece;
  high : (i : ℕ) → i < 16 → slice_index l.high i ≤ 2 ^ 32 * l.piece;
  sums : (i : ℕ) → i < 16 → pos (slice_index l.low i + 2 ^ 32 * slice_index l.high i) ≡ fold_to ◌+ℤ◌ (pos 0) l.piece (λ q. cond (has l.rows (64 * i + place_of l.lane_width q)) (value_at (g.L.Lanes.seen l.initial.lanes).values (64 * i + place_of l.lane_width q) +ℤ pos (2 ^ 63)) (pos 0));
}
