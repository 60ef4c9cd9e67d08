-- The least and the greatest of the values so far.
use Rattle.std.proofs.Common.{◌≡◌, true}
use Rattle.bit_interleave.specs.Range.{value_at}
use Rattle.frame_delta.specs.Extremes.{least_among, greatest_among}
use Rattle.frame_delta.proofs.extremes.range_of.Given as goal

abbrev pub invariant-loop-n : goal.invariant-loop-n
invariant-loop-n l = record {
  least : l.least ≡ least_among (λ _. true) (value_at l.values) (value_at l.values 0) l.n;
  greatest : l.greatest ≡ greatest_among (λ _. true) (value_at l.values) (value_at l.values 0) l.n;
}
