-- Later rows keep their own difference, and first rows get that of row 1.
use Rattle.std.proofs.Common.{pos, FitsSigned, ◌∙◌, rules, arith}
use Rattle.std.specs.Int.{w64}
use Rattle.std.proofs.lemmas.Int.{to_z-of_z}
use Rattle.bit_interleave.specs.Range.{value_at}
use Rattle.frame_delta.proofs.DifferenceLemmas.{differences_within_is, later_is_positive}
use Rattle.frame_delta.proofs.differences.differences_within.Goals as goal

pub returns : goal.returns
returns c =
    let t = c.args.lane_width in
    let found = c.all_differences-differences.result in
    let fits : FitsSigned w64 (value_at found 1) = search rules in
    differences_within_is t c.args.values.now c.fill_first_steps.new.rows c.fill_first_steps.array_long
    (λ n h e. c.fill_first_steps.ensures.later n (pos 0) e ∙ c.all_differences-differences.ensures n (later_is_positive t n c.requires e) h)
    (λ n h e. c.fill_first_steps.ensures.first n (pos 0) h e ∙ to_z-of_z w64 (value_at found 1) fits ∙ c.all_differences-differences.ensures 1 (omega arith) (omega arith))
