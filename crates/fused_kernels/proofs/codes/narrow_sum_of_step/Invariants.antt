-- the lanes so far are added up
use Rattle.std.proofs.Common.{◌≡◌, ◌==◌, ◌*◌, ◌^◌, cond, pos, ◌+ℤ◌, ◌-ℤ◌, ◌≤ℤ◌, slice_index}
use Rattle.std.specs.Int.{bit_at}
use Rattle.bit_interleave.specs.Range.{value_at}
use Rattle.native_lanes.specs.Folds.{fold_to}
use Rattle.fused_kernels.proofs.codes.narrow_sum_of_step.Given as goal

abbrev pub invariant-loop-i : goal.invariant-loop-i
invariant-loop-i l = record {
  sum : l.sum ≡ fold_to ◌+ℤ◌ (pos 0) l.i (λ lane. cond (bit_at (slice_index l.rows lane) l.step == 1) (value_at l.values (slice_index l.codes lane)) (pos 0));
  least : (pos 0 -ℤ pos (2 ^ 31 * l.i)) ≤ℤ l.sum;
  most : l.sum ≤ℤ pos (2 ^ 31 * l.i);
}
