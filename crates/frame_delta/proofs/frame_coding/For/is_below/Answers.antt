-- The values so far have a width of at most that of all, and all have the least form's width.
use Rattle.std.proofs.Common.{◌≡◌, ◌%◌, ◌<◌, ◌≤◌, ℕ, pos, ap, ◌∙◌, subst, arith}
use Rattle.std.specs.Int.{int_wrap}
use Rattle.bit_interleave.specs.Arithmetic.{integer_width}
use Rattle.bit_interleave.specs.Places.{by_place}
use Rattle.frame_delta.specs.Extremes.{at_top}
use Rattle.frame_delta.specs.Frame.{least_frame, frame_bytes}
use Rattle.frame_delta.proofs.SpanLemmas.{IsLaneSpan, span_of_lanes}
use Rattle.frame_delta.proofs.PlaceSpans.{number_at_place, span_starts, span_goes_on, frame_width_of_some, frame_width_of_all, bytes_of_least_frame, not_below, below_as_told}
use Rattle.frame_delta.proofs.frame_coding.For.is_below.Goals as goal

pub loop-place-init : goal.loop-place-init
loop-place-init c =
    let t = c.args.lane_width in
    span_starts (λ n. at_top t (int_wrap (integer_width t) (pos (by_place c.args.numbers.now n)))) c.ordered.result c.of-so_far.result.least c.of-so_far.result.greatest
    (λ i h. c.ordered.ensures.lanes i h ∙ ap (λ x. at_top t (int_wrap (integer_width t) (pos x))) (c.at.ensures.lanes i h ∙ number_at_place c.args.numbers.now 0 i (omega arith) h))
    c.of-so_far.ensures.least c.of-so_far.ensures.greatest

pub loop-place-preserved : goal.loop-place-preserved
loop-place-preserved c =
    let t = c.args.lane_width in
    let place = c.loop-place.place in
    span_goes_on place (λ n. at_top t (int_wrap (integer_width t) (pos (by_place c.args.numbers.now n)))) c.ordered-in-loop-place.result c.loop-place.so_far.least c.loop-place.so_far.greatest c.with-so_far.result.least c.with-so_far.result.greatest c.loop-place-test.true c.loop-place.invariant
    (λ i h. c.ordered-in-loop-place.ensures.lanes i h ∙ ap (λ x. at_top t (int_wrap (integer_width t) (pos x))) (c.at-in-loop-place.ensures.lanes i h ∙ number_at_place c.args.numbers.now place i c.loop-place-test.true h))
    c.with-so_far.ensures.least c.with-so_far.ensures.greatest

pub returns-then-bytes_at-bound : goal.returns-then-bytes_at-bound
returns-then-bytes_at-bound c values long above =
    let t = c.args.lane_width in
    let g : ℕ → ℕ = λ n. at_top t (int_wrap (integer_width t) (pos (by_place c.args.numbers.now n))) in
    let low = c.spread.ensures.low_reached in
    let high = c.spread.ensures.high_reached in
    let span = span_of_lanes (λ n. n % 64 < c.loop-place.place) g c.loop-place.so_far.least c.loop-place.so_far.greatest c.spread.result.least c.spread.result.greatest low.0 high.0 c.loop-place.invariant c.spread.ensures.low c.spread.ensures.high low.1 low.2 high.1 high.2 in
    let wide = frame_width_of_some t c.loop-place.place c.args.numbers.now values c.spread.result.least c.spread.result.greatest c.requires.lane_width above span in
    let bytes : c.bytes_at.result ≤ frame_bytes (least_frame t values) = omega (arith, bytes_of_least_frame t values, wide, c.width.ensures.value, c.bytes_at.ensures) in
    not_below (frame_bytes (least_frame t values)) c.bytes_at.result c.args.bound c.if-bytes_at-bound.true bytes

pub returns : goal.returns
returns c values long above =
    let t = c.args.lane_width in
    let g : ℕ → ℕ = λ n. at_top t (int_wrap (integer_width t) (pos (by_place c.args.numbers.now n))) in
    let low = c.spread-2.ensures.low_reached in
    let high = c.spread-2.ensures.high_reached in
    let end : c.loop-place.place ≡ 64 = omega (arith, c.loop-place-test.false, c.loop-place.auto.place-end) in
    let all : IsLaneSpan (λ n. n % 64 < 64) g c.loop-place.so_far.least c.loop-place.so_far.greatest = subst (λ (k : ℕ). IsLaneSpan (λ n. n % 64 < k) g c.loop-place.so_far.least c.loop-place.so_far.greatest) end c.loop-place.invariant in
    let span = span_of_lanes (λ n. n % 64 < 64) g c.loop-place.so_far.least c.loop-place.so_far.greatest c.spread-2.result.least c.spread-2.result.greatest low.0 high.0 all c.spread-2.ensures.low c.spread-2.ensures.high low.1 low.2 high.1 high.2 in
    let wide = frame_width_of_all t c.args.numbers.now values c.spread-2.result.least c.spread-2.result.greatest c.requires.lane_width above span in
    let bytes : c.bytes_at-2.result ≡ frame_bytes (least_frame t values) = omega (arith, bytes_of_least_frame t values, wide, c.width-2.ensures.value, c.bytes_at-2.ensures) in
    below_as_told (frame_bytes (least_frame t values)) c.bytes_at-2.result c.args.bound bytes
