-- The width is that of the distance from the least value to the greatest.
use Rattle.std.proofs.Common.{◌≡◌, ◌≤◌, of_z, to_z, rules, sym, ap, ◌∙◌, subst, FitsSigned}
use Rattle.std.specs.Int.{w64, int_gap}
use Rattle.std.proofs.lemmas.Int.{to_z-of_z}
use Rattle.bit_interleave.specs.Arithmetic.{least_width}
use Rattle.frame_delta.specs.Frame.{least_value, greatest_value}
use Rattle.frame_delta.proofs.FrameLemmas.{least_value_not_above, frame_width_is, frame_width_in_lane}
use Rattle.frame_delta.proofs.extremes.Frame.of.Goals as goal

pub gap-requires : goal.gap-requires
gap-requires c =
    let low : FitsSigned w64 c.range_of-least.result.0 = search rules in
    let high : FitsSigned w64 c.range_of-least.result.1 = search rules in
    rw (to_z-of_z w64 c.range_of-least.result.0 low, to_z-of_z w64 c.range_of-least.result.1 high, c.range_of-least.ensures.least, c.range_of-least.ensures.greatest) (least_value_not_above c.args.values.now)

pub returns-clause-least : goal.returns-clause-least
returns-clause-least c =
    let low : FitsSigned w64 c.range_of-least.result.0 = search rules in
    to_z-of_z w64 c.range_of-least.result.0 low ∙ c.range_of-least.ensures.least

pub returns-clause-width : goal.returns-clause-width
returns-clause-width c =
    let low : FitsSigned w64 c.range_of-least.result.0 = search rules in
    let high : FitsSigned w64 c.range_of-least.result.1 = search rules in
    let range : c.gap.result ≡ int_gap (least_value c.args.values.now) (greatest_value c.args.values.now) = c.gap.ensures ∙ ap (λ z. int_gap z (to_z w64 (of_z w64 c.range_of-least.result.1))) (to_z-of_z w64 c.range_of-least.result.0 low ∙ c.range_of-least.ensures.least) ∙ ap (int_gap (least_value c.args.values.now)) (to_z-of_z w64 c.range_of-least.result.1 high ∙ c.range_of-least.ensures.greatest) in
    c.width_of.ensures.value ∙ ap least_width range ∙ sym (frame_width_is c.args.values.now)

pub returns-clause-bound : goal.returns-clause-bound
returns-clause-bound c =
    subst (λ w. w ≤ c.args.lane_width) (sym (returns-clause-width c)) (frame_width_in_lane c.args.lane_width c.args.values.now c.requires.lane_width c.told-values c.requires.fit)
