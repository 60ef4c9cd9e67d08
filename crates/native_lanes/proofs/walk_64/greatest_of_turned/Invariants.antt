-- the greatest so far
use Rattle.std.proofs.Common.{◌≡◌, max, slice_index}
use Rattle.native_lanes.specs.Folds.{fold_to}
use Rattle.native_lanes.specs.Walks.{turned}
use Rattle.native_lanes.proofs.walk_64.greatest_of_turned.Given as goal

abbrev pub invariant-loop-i : goal.invariant-loop-i
invariant-loop-i l = record { greatest : l.greatest ≡ fold_to max 0 l.i (λ lane. turned 64 l.flipped (slice_index l.numbers lane)) }
