-- the rows of the pieces so far are written
use Rattle.std.proofs.Common.{◌≡◌, ℕ, ◌+◌, ◌*◌, ◌<◌, length}
use Rattle.transpose_order.specs.Place.{place_of}
use Rattle.bit_interleave.specs.Range.{value_at}
use Rattle.fused_kernels.specs.Seen.{given_of}
use Rattle.fused_kernels.proofs.decoding.decode_into.Given as goal

abbrev pub invariant-loop-piece : goal.invariant-loop-piece
invariant-loop-piece g l = record {
  seen : g.L.Lanes.seen l.lanes ≡ given_of (g.L.Lanes.seen l.initial.lanes) l.piece;
  long : length l.values ≡ 1024;
  written : (i q : ℕ) → i < 16 → q < l.piece → value_at l.values (64 * i + place_of l.lane_width q) ≡ value_at (g.L.Lanes.seen l.initial.lanes).values (64 * i + place_of l.lane_width q);
}
