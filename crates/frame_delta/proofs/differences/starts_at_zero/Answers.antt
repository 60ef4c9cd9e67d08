-- A place's numbers are 0 where the greatest is.
use Rattle.std.proofs.Common.{◌≡◌, ◌+◌, ◌*◌, ◌/◌, ◌<◌, sym, ap, ◌∙◌, arith}
use Rattle.std.proofs.lemmas.Bool.{false≢true}
use Rattle.bit_interleave.specs.Places.{by_place}
use Rattle.frame_delta.proofs.DeltaLemmas.{later_is}
use Rattle.frame_delta.proofs.PlaceSpans.{number_at_place, step_of_mask, step_of_place, before_or_here, first_at_place}
use Rattle.frame_delta.proofs.differences.starts_at_zero.Goals.{else-place-lane_width-eq0-via-then-place-lane_width-eq0+else-spread-ne0, else-place-lane_width-eq0-via-else-place-lane_width-eq0}
use Rattle.frame_delta.proofs.differences.starts_at_zero.Goals as goal

pub returns-then-spread-ne0 : goal.returns-then-spread-ne0
returns-then-spread-ne0 c =
    let t = c.args.lane_width in
    let place = c.loop-place.place in
    let xs = c.args.numbers.now in
    let near = c.loop-place-test.true in
    let none = sym (step_of_mask t place c.requires) ∙ c.if-place-lane_width-eq0.true in
    let (i, h, e) = c.spread.ensures.high_reached in
    let here = e ∙ c.of.ensures.greatest i h ∙ c.at.ensures.lanes i h ∙ number_at_place xs place i near h in (
      λ no. absurd (false≢true no),
      λ all. absurd (c.if-spread-ne0.true (here ∙ all (64 * i + place) (omega (arith, h, near)) (first_at_place t place i c.requires near none))),
    )

pub loop-place-preserved : goal.loop-place-preserved
loop-place-preserved c n h near first =
    let t = c.args.lane_width in
    let place = c.loop-place.place in
    let xs = c.args.numbers.now in
    let within = c.loop-place-test.true in
    before_or_here (by_place xs n ≡ 0) n place near
    (λ less. c.loop-place.invariant n h less first)
    (λ here.
    elim c.else-place-lane_width-eq0.branch [
      | else-place-lane_width-eq0-via-then-place-lane_width-eq0+else-spread-ne0 w ↦
          let i = n / 64 in
          let small : i < 16 = omega (arith, h) in
          let row : 64 * i + place ≡ n = omega (arith, here) in
          let number = w.of.ensures.greatest i small ∙ w.at.ensures.lanes i small ∙ number_at_place xs place i within small ∙ ap (by_place xs) row in
          omega (arith, number, w.spread.ensures.high i small, w.if-spread-ne0.false)
      | else-place-lane_width-eq0-via-else-place-lane_width-eq0 w ↦
          absurd (false≢true (sym first ∙ later_is t n (λ e. w.if-place-lane_width-eq0.false (step_of_mask t place c.requires ∙ sym (step_of_place t place n c.requires here) ∙ e))))
    ])
