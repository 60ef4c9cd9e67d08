-- The extremes of the values of the places so far, in each lane.
use Rattle.std.proofs.Common.{◌%◌, ◌<◌, pos}
use Rattle.std.specs.Int.{int_wrap}
use Rattle.bit_interleave.specs.Arithmetic.{integer_width}
use Rattle.bit_interleave.specs.Places.{by_place}
use Rattle.frame_delta.specs.Extremes.{at_top}
use Rattle.frame_delta.proofs.SpanLemmas.{IsLaneSpan}
use Rattle.frame_delta.proofs.frame_coding.For.is_below.Given as goal

abbrev pub invariant-loop-place : goal.invariant-loop-place
invariant-loop-place l =
    IsLaneSpan (λ n. n % 64 < l.place) (λ n. at_top l.lane_width (int_wrap (integer_width l.lane_width) (pos (by_place l.numbers n)))) l.so_far.least l.so_far.greatest
