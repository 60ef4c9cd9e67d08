-- the steps so far are marked
use Rattle.std.proofs.Common.{◌≡◌, ◌==◌, ℕ, ◌+◌, ◌%◌, ◌^◌, ◌<◌, ◌&&◌, nat_lt, nat_le, slice_index}
use Rattle.std.specs.Int.{bit_at}
use Rattle.bit_interleave.specs.Packing.{packed_value}
use Rattle.native_lanes.proofs.native_16.packed_marks.Given as goal

abbrev pub invariant-loop-step : goal.invariant-loop-step
invariant-loop-step l =
    (lane r : ℕ) → lane < 64 → r < 16 → (bit_at (slice_index l.marks lane) r == 1) ≡ (nat_lt r l.step && nat_le ((packed_value 16 l.width l.words lane r + l.offset) % 2 ^ 16) l.span)
