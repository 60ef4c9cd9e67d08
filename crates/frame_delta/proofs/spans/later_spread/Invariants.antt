-- The extremes of the later numbers of the places so far, in each lane.
use Rattle.bit_interleave.specs.Places.{by_place}
use Rattle.frame_delta.proofs.SpanLemmas.{IsLaneSpan}
use Rattle.frame_delta.proofs.PlaceSpans.{LaterBefore}
use Rattle.frame_delta.proofs.spans.later_spread.Given as goal

abbrev pub invariant-loop-place : goal.invariant-loop-place
invariant-loop-place l =
    IsLaneSpan (LaterBefore l.lane_width l.place) (λ n. by_place l.numbers n) l.so_far.least l.so_far.greatest
