-- The least form of equal values has one of them as the reference, and no words.
use Rattle.std.proofs.Common.{◌≡◌, to_z, of_z, rules, ◌∙◌, FitsSigned}
use Rattle.std.specs.Int.{w64}
use Rattle.std.proofs.lemmas.Int.{to_z-of_z}
use Rattle.frame_delta.proofs.SameValues.{frame_same}
use Rattle.frame_delta.proofs.frame_coding.For.constant.Goals as goal

pub returns : goal.returns
returns c values same =
    let fits : FitsSigned w64 c.args.value = search rules in
    let reference : to_z w64 (of_z w64 c.args.value) ≡ c.args.value = to_z-of_z w64 c.args.value fits in
    let words = c.in_ok-words.ensures in
    (λ i. record { lane_width = (words i).lane_width; width = 0; reference = reference i; words = words i }) ∙ frame_same values c.args.value same c.args.lane_width
