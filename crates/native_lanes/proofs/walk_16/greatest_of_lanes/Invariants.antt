-- the greatest so far
use Rattle.std.proofs.Common.{◌≡◌, max, slice_index}
use Rattle.native_lanes.specs.Folds.{fold_to}
use Rattle.native_lanes.proofs.walk_16.greatest_of_lanes.Given as goal

abbrev pub invariant-loop-i : goal.invariant-loop-i
invariant-loop-i l = record { greatest : l.greatest ≡ fold_to max 0 l.i (slice_index l.numbers) }
