-- The parts are those of the least form.
use Rattle.std.proofs.Common.{ℕ, ◌^◌, ◌<◌, List, of_z, to_z, rules, sym, ap, ◌∙◌, subst, FitsSigned}
use Rattle.std.specs.Int.{w64}
use Rattle.std.specs.List.{All}
use Rattle.std.proofs.lemmas.Int.{to_z-of_z}
use Rattle.bit_interleave.specs.PackedWords.{PackedWords}
use Rattle.frame_delta.specs.Frame.{FrameForm, least_value, gaps_above, IsFrameForm}
use Rattle.frame_delta.proofs.FrameLemmas.{least_value_below, gaps_have_width, frame_from_parts, least_frame_is_a_form}
use Rattle.frame_delta.proofs.frame_coding.For.encode.Goals as goal

pub gaps_above-gaps-requires : goal.gaps_above-gaps-requires
gaps_above-gaps-requires c =
    let fits : FitsSigned w64 c.of-reference.result.least = search rules in
    λ n h. rw (to_z-of_z w64 c.of-reference.result.least fits, c.of-reference.ensures.least) (least_value_below c.args.values.now n h)

pub pack-requires-clause-fit : goal.pack-requires-clause-fit
pack-requires-clause-fit c =
    let fits : FitsSigned w64 c.of-reference.result.least = search rules in
    let gaps = c.gaps_above-gaps.ensures ∙ ap (λ r. gaps_above r c.args.values.now) (to_z-of_z w64 c.of-reference.result.least fits ∙ c.of-reference.ensures.least) in
    subst (λ (xs : List ℕ). All (λ v. v < 2 ^ c.of-reference.result.width) xs) (sym gaps)
    (subst (λ (w : ℕ). All (λ v. v < 2 ^ w) (gaps_above (least_value c.args.values.now) c.args.values.now)) (sym c.of-reference.ensures.width)
    (gaps_have_width c.args.lane_width c.args.values.now c.requires.lane_width c.told-values c.requires.fit))

pub invariant_of-result : goal.invariant_of-result
invariant_of-result c =
    let fits : FitsSigned w64 c.of-reference.result.least = search rules in
    let form : FrameForm = record { lane_width = c.in_ok-words.words.lane_width; width = c.of-reference.result.width; reference = to_z w64 (of_z w64 c.of-reference.result.least); words = c.in_ok-words.words } in
    subst IsFrameForm
    (sym (frame_from_parts form c.args.lane_width c.args.values.now c.gaps_above-gaps.result (ap (λ (p : PackedWords). p.lane_width) c.in_ok-words.ensures) c.in_ok-words.ensures c.of-reference.ensures.width
    (to_z-of_z w64 c.of-reference.result.least fits ∙ c.of-reference.ensures.least) c.gaps_above-gaps.ensures))
    (least_frame_is_a_form c.args.lane_width c.args.values.now c.requires.lane_width c.told-values c.requires.fit)

pub returns : goal.returns
returns c =
    let fits : FitsSigned w64 c.of-reference.result.least = search rules in
    let form : FrameForm = record { lane_width = c.in_ok-words.words.lane_width; width = c.of-reference.result.width; reference = to_z w64 (of_z w64 c.of-reference.result.least); words = c.in_ok-words.words } in
    frame_from_parts form c.args.lane_width c.args.values.now c.gaps_above-gaps.result (ap (λ (p : PackedWords). p.lane_width) c.in_ok-words.ensures) c.in_ok-words.ensures c.of-reference.ensures.width
    (to_z-of_z w64 c.of-reference.result.least fits ∙ c.of-reference.ensures.least) c.gaps_above-gaps.ensures
