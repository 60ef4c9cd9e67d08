-- Each place's later numbers are taken in.
use Rattle.std.proofs.Common.{◌≡◌, ◌+◌, ℕ, sym, ◌∙◌, subst, arith}
use Rattle.bit_interleave.specs.Places.{by_place}
use Rattle.frame_delta.specs.declared.spans.LaneSpread.{LaneSpread}
use Rattle.frame_delta.proofs.SpanLemmas.{IsLaneSpan, span_of_lanes}
use Rattle.frame_delta.proofs.PlaceSpans.{LaterBefore, number_at_place, step_of_mask, later_span_starts, later_span_goes_on, later_span_skips, spread_of_later}
use Rattle.frame_delta.proofs.spans.later_spread.Goals.{then-place-lane_width-ne0, else-place-lane_width-ne0}
use Rattle.frame_delta.proofs.spans.later_spread.Goals as goal

pub loop-place-init : goal.loop-place-init
loop-place-init c =
    later_span_starts c.args.lane_width (λ n. by_place c.args.numbers.now n) c.at.result c.of-so_far.result.least c.of-so_far.result.greatest c.requires
    (λ i h. c.at.ensures.lanes i h ∙ number_at_place c.args.numbers.now 1 i (omega arith) h) c.of-so_far.ensures.least c.of-so_far.ensures.greatest

pub loop-place-preserved : goal.loop-place-preserved
loop-place-preserved c =
    let t = c.args.lane_width in
    let place = c.loop-place.place in
    let g : ℕ → ℕ = λ n. by_place c.args.numbers.now n in
    let step = step_of_mask t place c.requires in
    elim c.if-place-lane_width-ne0.branch [
      | then-place-lane_width-ne0 w ↦
          subst (λ (s : LaneSpread). IsLaneSpan (LaterBefore t (place + 1)) g s.least s.greatest) (sym w.so_far-is)
          (later_span_goes_on t place g w.at-then-place-lane_width-ne0.result c.loop-place.so_far.least c.loop-place.so_far.greatest w.with-so_far.result.least w.with-so_far.result.greatest c.requires c.loop-place-test.true (λ e. w.if-place-lane_width-ne0.true (step ∙ e)) c.loop-place.invariant
          (λ i h. w.at-then-place-lane_width-ne0.ensures.lanes i h ∙ number_at_place c.args.numbers.now place i c.loop-place-test.true h) w.with-so_far.ensures.least w.with-so_far.ensures.greatest)
      | else-place-lane_width-ne0 w ↦
          subst (λ (s : LaneSpread). IsLaneSpan (LaterBefore t (place + 1)) g s.least s.greatest) (sym w.so_far-is)
          (later_span_skips t place g c.loop-place.so_far.least c.loop-place.so_far.greatest c.requires (sym step ∙ w.if-place-lane_width-ne0.false) c.loop-place.invariant)
    ]

pub returns : goal.returns
returns c =
    let t = c.args.lane_width in
    let g : ℕ → ℕ = λ n. by_place c.args.numbers.now n in
    let low = c.spread.ensures.low_reached in
    let high = c.spread.ensures.high_reached in
    let end : c.loop-place.place ≡ 64 = omega (arith, c.loop-place-test.false, c.loop-place.auto.place-end) in
    let all : IsLaneSpan (LaterBefore t 64) g c.loop-place.so_far.least c.loop-place.so_far.greatest = subst (λ (k : ℕ). IsLaneSpan (LaterBefore t k) g c.loop-place.so_far.least c.loop-place.so_far.greatest) end c.loop-place.invariant in
    spread_of_later t g c.spread.result.least c.spread.result.greatest
    (span_of_lanes (LaterBefore t 64) g c.loop-place.so_far.least c.loop-place.so_far.greatest c.spread.result.least c.spread.result.greatest low.0 high.0 all c.spread.ensures.low c.spread.ensures.high low.1 low.2 high.1 high.2)
