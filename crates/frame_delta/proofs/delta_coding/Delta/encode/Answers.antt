-- The parts are those of the least form.
use Rattle.std.proofs.Common.{ℕ, ◌^◌, ◌<◌, ◌≤◌, ◌≡◌, ℤ, ◌≤ℤ◌, List, of_z, to_z, rules, sym, ap, ◌∙◌, subst, FitsSigned}
use Rattle.std.specs.Int.{w64}
use Rattle.std.specs.List.{All}
use Rattle.std.proofs.lemmas.Int.{to_z-of_z}
use Rattle.bit_interleave.specs.LaneValues.{LaneValues}
use Rattle.bit_interleave.specs.PackedWords.{PackedWords, words_packing, packed_width}
use Rattle.bit_interleave.proofs.ValueLemmas.{packed_width-words_packing}
use Rattle.bit_interleave.specs.Range.{AreInRange, value_at}
use Rattle.frame_delta.specs.Frame.{frame_width, least_value, gaps_above}
use Rattle.frame_delta.specs.Delta.{DeltaForm, least_difference, later_gaps, IsDeltaForm}
use Rattle.frame_delta.proofs.DeltaLemmas.{later_gaps_have_width, delta_width_in_lane, delta_from_parts, least_delta_is_a_form}
use Rattle.frame_delta.proofs.DifferenceLemmas.{AreInRange-differences_within, least_value-differences_within, frame_width-differences_within, is_filled, gaps_of_filled, least_below_filled}
use Rattle.frame_delta.proofs.delta_coding.Delta.encode.Goals as goal

pub of-least-requires-clause-fit : goal.of-least-requires-clause-fit
of-least-requires-clause-fit c =
    subst (λ (xs : List ℤ). AreInRange c.args.lane_width xs) (sym c.differences_within-differences.ensures) (AreInRange-differences_within c.args.lane_width c.args.values.now)

pub gaps_above-gaps-requires : goal.gaps_above-gaps-requires
gaps_above-gaps-requires c =
    let t = c.args.lane_width in
    let values = c.args.values.now in
    let fits : FitsSigned w64 c.of-least.result.least = search rules in
    let least = to_z-of_z w64 c.of-least.result.least fits ∙ c.of-least.ensures.least ∙ ap least_value c.differences_within-differences.ensures ∙ least_value-differences_within t values c.requires.lane_width in
    let filled = is_filled t values c.differences_within-differences.result c.fill_first_steps.new.rows (to_z w64 (of_z w64 c.of-least.result.least)) c.differences_within-differences.ensures least c.fill_first_steps.ensures.first c.fill_first_steps.ensures.later in
    λ n h. subst (λ (r : ℤ). r ≤ℤ value_at c.fill_first_steps.new.rows n) (sym least) (least_below_filled t values c.fill_first_steps.new.rows filled n h)

pub pack-requires-clause-fit : goal.pack-requires-clause-fit
pack-requires-clause-fit c =
    let t = c.args.lane_width in
    let values = c.args.values.now in
    let fits : FitsSigned w64 c.of-least.result.least = search rules in
    let least = to_z-of_z w64 c.of-least.result.least fits ∙ c.of-least.ensures.least ∙ ap least_value c.differences_within-differences.ensures ∙ least_value-differences_within t values c.requires.lane_width in
    let filled = is_filled t values c.differences_within-differences.result c.fill_first_steps.new.rows (to_z w64 (of_z w64 c.of-least.result.least)) c.differences_within-differences.ensures least c.fill_first_steps.ensures.first c.fill_first_steps.ensures.later in
    let wide = c.of-least.ensures.width ∙ ap frame_width c.differences_within-differences.ensures ∙ frame_width-differences_within t values c.requires.lane_width in
    let gaps = c.gaps_above-gaps.ensures ∙ ap (λ r. gaps_above r c.fill_first_steps.new.rows) least ∙ gaps_of_filled t values c.fill_first_steps.new.rows filled in
    subst (λ (xs : List ℕ). All (λ v. v < 2 ^ c.of-least.result.width) xs) (sym gaps)
    (subst (λ (w : ℕ). All (λ v. v < 2 ^ w) (later_gaps t (least_difference t values) values)) (sym wide) (later_gaps_have_width t values c.requires.lane_width))

pub invariant_of-result : goal.invariant_of-result
invariant_of-result c =
    let t = c.args.lane_width in
    let values = c.args.values.now in
    let fits : FitsSigned w64 c.of-least.result.least = search rules in
    let least = to_z-of_z w64 c.of-least.result.least fits ∙ c.of-least.ensures.least ∙ ap least_value c.differences_within-differences.ensures ∙ least_value-differences_within t values c.requires.lane_width in
    let filled = is_filled t values c.differences_within-differences.result c.fill_first_steps.new.rows (to_z w64 (of_z w64 c.of-least.result.least)) c.differences_within-differences.ensures least c.fill_first_steps.ensures.first c.fill_first_steps.ensures.later in
    let wide = c.of-least.ensures.width ∙ ap frame_width c.differences_within-differences.ensures ∙ frame_width-differences_within t values c.requires.lane_width in
    let gaps = c.gaps_above-gaps.ensures ∙ ap (λ r. gaps_above r c.fill_first_steps.new.rows) least ∙ gaps_of_filled t values c.fill_first_steps.new.rows filled in
    let told : packed_width c.in_ok-words.words ≡ c.of-least.result.width =
    ap packed_width c.in_ok-words.ensures ∙ packed_width-words_packing t c.of-least.result.width c.gaps_above-gaps.result c.requires.lane_width (subst (λ (w : ℕ). w ≤ t) (sym wide) (delta_width_in_lane t values c.requires.lane_width)) in
    let form : DeltaForm = record { lane_width = c.in_ok-words.words.lane_width; width = packed_width c.in_ok-words.words; least = to_z w64 (of_z w64 c.of-least.result.least); bases = c.in_ok-bases.bases.values; words = c.in_ok-words.words } in (
      subst IsDeltaForm
          (sym (delta_from_parts form t values c.gaps_above-gaps.result (ap (λ (p : PackedWords). p.lane_width) c.in_ok-words.ensures) (c.in_ok-words.ensures ∙ ap (λ w. words_packing t w c.gaps_above-gaps.result) (sym told)) (told ∙ wide) least (ap (λ (v : LaneValues). v.values) c.in_ok-bases.ensures) (gaps ∙ ap (λ r. later_gaps t r values) (sym least))))
          (least_delta_is_a_form t values c.requires.lane_width),
      ap (λ (v : LaneValues). v.lane_width) c.in_ok-bases.ensures ∙ sym (ap (λ (p : PackedWords). p.lane_width) c.in_ok-words.ensures),
    )

pub returns : goal.returns
returns c =
    let t = c.args.lane_width in
    let values = c.args.values.now in
    let fits : FitsSigned w64 c.of-least.result.least = search rules in
    let least = to_z-of_z w64 c.of-least.result.least fits ∙ c.of-least.ensures.least ∙ ap least_value c.differences_within-differences.ensures ∙ least_value-differences_within t values c.requires.lane_width in
    let filled = is_filled t values c.differences_within-differences.result c.fill_first_steps.new.rows (to_z w64 (of_z w64 c.of-least.result.least)) c.differences_within-differences.ensures least c.fill_first_steps.ensures.first c.fill_first_steps.ensures.later in
    let wide = c.of-least.ensures.width ∙ ap frame_width c.differences_within-differences.ensures ∙ frame_width-differences_within t values c.requires.lane_width in
    let gaps = c.gaps_above-gaps.ensures ∙ ap (λ r. gaps_above r c.fill_first_steps.new.rows) least ∙ gaps_of_filled t values c.fill_first_steps.new.rows filled in
    let told : packed_width c.in_ok-words.words ≡ c.of-least.result.width =
    ap packed_width c.in_ok-words.ensures ∙ packed_width-words_packing t c.of-least.result.width c.gaps_above-gaps.result c.requires.lane_width (subst (λ (w : ℕ). w ≤ t) (sym wide) (delta_width_in_lane t values c.requires.lane_width)) in
    let form : DeltaForm = record { lane_width = c.in_ok-words.words.lane_width; width = packed_width c.in_ok-words.words; least = to_z w64 (of_z w64 c.of-least.result.least); bases = c.in_ok-bases.bases.values; words = c.in_ok-words.words } in
    delta_from_parts form t values c.gaps_above-gaps.result (ap (λ (p : PackedWords). p.lane_width) c.in_ok-words.ensures) (c.in_ok-words.ensures ∙ ap (λ w. words_packing t w c.gaps_above-gaps.result) (sym told)) (told ∙ wide) least (ap (λ (v : LaneValues). v.values) c.in_ok-bases.ensures) (gaps ∙ ap (λ r. later_gaps t r values) (sym least))
