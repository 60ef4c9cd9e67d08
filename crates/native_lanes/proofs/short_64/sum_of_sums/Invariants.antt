-- the sum so far
use Rattle.std.proofs.Common.{◌≡◌, ◌*◌, ◌^◌, ◌≤◌, ◌+◌, slice_index}
use Rattle.native_lanes.specs.Folds.{fold_to}
use Rattle.native_lanes.proofs.short_64.sum_of_sums.Given as goal

abbrev pub invariant-loop-i : goal.invariant-loop-i
invariant-loop-i l = record {
  sum : l.sum ≡ fold_to ◌+◌ 0 l.i (slice_index l.sums);
  bound : l.sum ≤ 2 ^ 64 * l.i;
}
