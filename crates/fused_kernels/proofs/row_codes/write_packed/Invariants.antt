-- the rows of the steps so far are written
use Rattle.std.proofs.Common.{◌≡◌, ℕ, ◌%◌, ◌<◌, length, slice_index}
use Rattle.transpose_order.specs.Place.{lane_of, step_of}
use Rattle.bit_interleave.specs.Packing.{packed_value}
use Rattle.fused_kernels.proofs.row_codes.write_packed.Given as goal

abbrev pub invariant-loop-step : goal.invariant-loop-step
invariant-loop-step l = record {
  long : length l.codes ≡ 1024;
  written : (n : ℕ) → n < 1024 → n % 16 < l.step → slice_index l.codes n ≡ packed_value 16 l.width l.words (lane_of 16 n) (step_of 16 n);
}
