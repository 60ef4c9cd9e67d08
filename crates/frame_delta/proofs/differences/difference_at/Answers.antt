-- What is read is what the definition names.
use Rattle.std.proofs.Common.{◌-◌, pos, ◌-ℤ◌, slice_index_or, of_z, to_z, rules, ap, ◌∙◌, FitsSigned}
use Rattle.std.specs.Int.{w64, int_wrap}
use Rattle.std.proofs.lemmas.Int.{to_z-of_z}
use Rattle.bit_interleave.specs.Arithmetic.{integer_width}
use Rattle.bit_interleave.specs.Range.{value_at}
use Rattle.frame_delta.specs.Delta.{difference_at}
use Rattle.frame_delta.proofs.differences.difference_at.Goals as goal

pub returns : goal.returns
unfolding difference_at
returns c =
    let values = c.args.values.now in
    let row = c.args.row in
    let here : FitsSigned w64 (slice_index_or values row (pos 0)) = search rules in
    let before : FitsSigned w64 (slice_index_or values (row - 1) (pos 0)) = search rules in
    let made : FitsSigned w64 c.wrapping_difference.result = search rules in
    to_z-of_z w64 c.wrapping_difference.result made ∙ c.wrapping_difference.ensures
    ∙ ap (λ z. int_wrap (integer_width c.args.lane_width) (z -ℤ to_z w64 (of_z w64 (value_at values (row - 1))))) (to_z-of_z w64 (value_at values row) here)
    ∙ ap (λ z. int_wrap (integer_width c.args.lane_width) (value_at values row -ℤ z)) (to_z-of_z w64 (value_at values (row - 1)) before)
