-- in each lane, the greatest of the turned values of the rows looked at in the pieces so far
use Rattle.std.proofs.Common.{◌≡◌, ℕ, ◌+◌, ◌*◌, ◌<◌, cond, Some, None}
use Rattle.transpose_order.specs.Place.{place_of}
use Rattle.transpose_order.specs.Mask.{has}
use Rattle.table_model.specs.Values.{greater}
use Rattle.bit_interleave.specs.Range.{value_at}
use Rattle.native_lanes.specs.Folds.{fold_to}
use Rattle.table_model.specs.Extreme.{turned}
use Rattle.fused_kernels.specs.Seen.{given_of}
use Rattle.fused_kernels.proofs.ExtremeLemmas.{or_bottom}
use Rattle.fused_kernels.proofs.extremes.extreme.Given as goal

abbrev pub invariant-loop-piece : goal.invariant-loop-piece
invariant-loop-piece g l = record {
  seen : g.L.Lanes.seen l.lanes ≡ given_of (g.L.Lanes.seen l.initial.lanes) l.piece;
  greatests : (i : ℕ) → i < 16 → value_at l.greatests i ≡ or_bottom (fold_to greater None l.piece (λ q. cond (has l.rows (64 * i + place_of l.lane_width q)) (Some (turned l.side (value_at (g.L.Lanes.seen l.initial.lanes).values (64 * i + place_of l.lane_width q)))) None));
}
