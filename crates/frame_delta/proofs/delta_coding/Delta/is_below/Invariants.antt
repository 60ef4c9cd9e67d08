-- The extremes of the differences of the places so far, in each lane.
use Rattle.std.proofs.Common.{◌≡◌, ◌%◌, ◌<◌, true}
use Rattle.frame_delta.specs.Extremes.{at_top}
use Rattle.frame_delta.specs.Delta.{is_later, number_difference}
use Rattle.frame_delta.proofs.SpanLemmas.{IsLaneSpan}
use Rattle.frame_delta.proofs.delta_coding.Delta.is_below.Given as goal

abbrev pub invariant-loop-place : goal.invariant-loop-place
invariant-loop-place l =
    IsLaneSpan (λ n. (n % 64 < l.place) × (is_later l.lane_width n ≡ true)) (λ n. at_top l.lane_width (number_difference l.lane_width l.numbers n)) l.so_far.least l.so_far.greatest
