-- The differences so far have a width of at most that of all, and all have the least form's width.
use Rattle.std.proofs.Common.{◌≡◌, ◌+◌, ◌≤◌, ℕ, sym, ◌∙◌, subst, arith}
use Rattle.frame_delta.specs.Extremes.{at_top}
use Rattle.frame_delta.specs.Delta.{number_difference, least_delta, delta_bytes}
use Rattle.frame_delta.specs.declared.spans.LaneSpread.{LaneSpread}
use Rattle.frame_delta.proofs.SpanLemmas.{IsLaneSpan, span_of_lanes}
use Rattle.frame_delta.proofs.PlaceSpans.{LaterBefore, step_of_mask, later_span_starts, later_span_goes_on, later_span_skips, delta_width_of_some, delta_width_of_all, bytes_of_least_delta, not_below, below_as_told}
use Rattle.frame_delta.proofs.delta_coding.Delta.is_below.Goals.{then-place-lane_width-ne0, else-place-lane_width-ne0}
use Rattle.frame_delta.proofs.delta_coding.Delta.is_below.Goals as goal

pub loop-place-init : goal.loop-place-init
loop-place-init c =
    later_span_starts c.args.lane_width (λ n. at_top c.args.lane_width (number_difference c.args.lane_width c.args.numbers.now n)) c.differences_at.result c.of-so_far.result.least c.of-so_far.result.greatest c.requires.lane_width c.differences_at.ensures.lanes c.of-so_far.ensures.least c.of-so_far.ensures.greatest

pub loop-place-preserved : goal.loop-place-preserved
loop-place-preserved c =
    let t = c.args.lane_width in
    let place = c.loop-place.place in
    let g : ℕ → ℕ = λ n. at_top t (number_difference t c.args.numbers.now n) in
    let step = step_of_mask t place c.requires.lane_width in
    elim c.if-place-lane_width-ne0.branch [
      | then-place-lane_width-ne0 w ↦
          subst (λ (s : LaneSpread). IsLaneSpan (LaterBefore t (place + 1)) g s.least s.greatest) (sym w.so_far-is)
          (later_span_goes_on t place g w.differences_at-then-place-lane_width-ne0.result c.loop-place.so_far.least c.loop-place.so_far.greatest w.with-so_far.result.least w.with-so_far.result.greatest c.requires.lane_width c.loop-place-test.true (λ e. w.if-place-lane_width-ne0.true (step ∙ e)) c.loop-place.invariant w.differences_at-then-place-lane_width-ne0.ensures.lanes w.with-so_far.ensures.least w.with-so_far.ensures.greatest)
      | else-place-lane_width-ne0 w ↦
          subst (λ (s : LaneSpread). IsLaneSpan (LaterBefore t (place + 1)) g s.least s.greatest) (sym w.so_far-is)
          (later_span_skips t place g c.loop-place.so_far.least c.loop-place.so_far.greatest c.requires.lane_width (sym step ∙ w.if-place-lane_width-ne0.false) c.loop-place.invariant)
    ]

pub returns-then-bytes_at-bound : goal.returns-then-bytes_at-bound
returns-then-bytes_at-bound c values r long above =
    let t = c.args.lane_width in
    let g : ℕ → ℕ = λ n. at_top t (number_difference t c.args.numbers.now n) in
    let low = c.spread.ensures.low_reached in
    let high = c.spread.ensures.high_reached in
    let span = span_of_lanes (LaterBefore t c.loop-place.place) g c.loop-place.so_far.least c.loop-place.so_far.greatest c.spread.result.least c.spread.result.greatest low.0 high.0 c.loop-place.invariant c.spread.ensures.low c.spread.ensures.high low.1 low.2 high.1 high.2 in
    let wide = delta_width_of_some t c.loop-place.place r c.args.numbers.now values c.spread.result.least c.spread.result.greatest c.requires.lane_width above span in
    let bytes : c.bytes_at.result ≤ delta_bytes (least_delta t values) = omega (arith, bytes_of_least_delta t values, wide, c.width.ensures.value, c.bytes_at.ensures) in
    not_below (delta_bytes (least_delta t values)) c.bytes_at.result c.args.bound c.if-bytes_at-bound.true bytes

pub returns : goal.returns
returns c values r long above =
    let t = c.args.lane_width in
    let g : ℕ → ℕ = λ n. at_top t (number_difference t c.args.numbers.now n) in
    let low = c.spread-2.ensures.low_reached in
    let high = c.spread-2.ensures.high_reached in
    let end : c.loop-place.place ≡ 64 = omega (arith, c.loop-place-test.false, c.loop-place.auto.place-end) in
    let all : IsLaneSpan (LaterBefore t 64) g c.loop-place.so_far.least c.loop-place.so_far.greatest = subst (λ (k : ℕ). IsLaneSpan (LaterBefore t k) g c.loop-place.so_far.least c.loop-place.so_far.greatest) end c.loop-place.invariant in
    let span = span_of_lanes (LaterBefore t 64) g c.loop-place.so_far.least c.loop-place.so_far.greatest c.spread-2.result.least c.spread-2.result.greatest low.0 high.0 all c.spread-2.ensures.low c.spread-2.ensures.high low.1 low.2 high.1 high.2 in
    let wide = delta_width_of_all t r c.args.numbers.now values c.spread-2.result.least c.spread-2.result.greatest c.requires.lane_width above span in
    let bytes : c.bytes_at-2.result ≡ delta_bytes (least_delta t values) = omega (arith, bytes_of_least_delta t values, wide, c.width-2.ensures.value, c.bytes_at-2.ensures) in
    below_as_told (delta_bytes (least_delta t values)) c.bytes_at-2.result c.args.bound bytes
