-- FOR is chosen where no other coding takes fewer bytes.
use Rattle.std.proofs.Common.{◌≡◌, ◌↔◌, IsTrue, false, ℕ, ◌<◌, ◌≤◌, ℤ, List, not, refl, sym, ◌∙◌, ap, subst}
use Rattle.frame_delta.specs.Frame.{FrameForm, AreAbove, frame_bytes, frame_values}
use Rattle.frame_delta.specs.Delta.{delta_bytes, least_delta}
use Rattle.frame_delta.proofs.FrameLemmas.{length-frame_values}
use Rattle.run_dictionary.specs.Runs.{run_bytes, least_runs}
use Rattle.run_dictionary.specs.Dict.{dict_bytes, least_dict}
use Rattle.segment_core.specs.Choice.{least_bytes}
use Rattle.segment_core.specs.declared.coding.Coding.TheVariants.{For, Delta, Runs, Dict}
use Rattle.segment_core.proofs.ChoiceLemmas.{at_least, choice_of_frame}
use Rattle.segment_core.proofs.ChosenLemmas.{not_fewest, not_below, frame_wins}
use Rattle.segment_core.proofs.frames.is_frame_chosen.Goals as goal

pub returns-then-is_below : goal.returns-then-is_below
returns-then-is_below c =
    let form : FrameForm = c.args.form.now in
    let values : List ℤ = frame_values form in
    let bytes : ℕ = c.bytes_len-bytes.result in
    let own : bytes ≡ least_bytes form.lane_width values For = c.bytes_len-bytes.ensures ∙ ap frame_bytes c.requires.least in
    let less = subst (λ (t : ℕ). run_bytes (least_runs t values) < bytes) c.lane_width-lane_width.ensures.value ((c.if-is_below.ensures values (length-frame_values form) c.requires.apart).0 refl) in (
      λ no. absurd (cc),
      λ e. absurd (not_fewest form.lane_width values For Runs bytes own less e),
    )

pub returns-then-is_below-2 : goal.returns-then-is_below-2
returns-then-is_below-2 c =
    let form : FrameForm = c.args.form.now in
    let values : List ℤ = frame_values form in
    let bytes : ℕ = c.bytes_len-bytes.result in
    let own : bytes ≡ least_bytes form.lane_width values For = c.bytes_len-bytes.ensures ∙ ap frame_bytes c.requires.least in
    let above = subst (λ (t : ℕ). AreAbove t form.reference c.args.numbers.now values) (sym c.lane_width-lane_width.ensures.value) c.requires.values in
    let less = subst (λ (t : ℕ). delta_bytes (least_delta t values) < bytes) c.lane_width-lane_width.ensures.value ((c.if-is_below-2.ensures values form.reference (length-frame_values form) above).0 refl) in (
      λ no. absurd (cc),
      λ e. absurd (not_fewest form.lane_width values For Delta bytes own less e),
    )

pub returns : goal.returns
returns c =
    let form : FrameForm = c.args.form.now in
    let t : ℕ = c.lane_width-lane_width.result in
    let values : List ℤ = frame_values form in
    let bytes : ℕ = c.bytes_len-bytes.result in
    let own : bytes ≡ least_bytes form.lane_width values For = c.bytes_len-bytes.ensures ∙ ap frame_bytes c.requires.least in
    let is : t ≡ form.lane_width = c.lane_width-lane_width.ensures.value in
    let above = subst (λ (u : ℕ). AreAbove u form.reference c.args.numbers.now values) (sym is) c.requires.values in
    let runs = subst (λ (u : ℕ). bytes ≤ run_bytes (least_runs u values)) is (at_least false (run_bytes (least_runs t values)) bytes (c.if-is_below.ensures values (length-frame_values form) c.requires.apart) refl) in
    let deltas = subst (λ (u : ℕ). bytes ≤ delta_bytes (least_delta u values)) is (at_least false (delta_bytes (least_delta t values)) bytes (c.if-is_below-2.ensures values form.reference (length-frame_values form) above) refl) in
    let last = subst (λ (u : ℕ). IsTrue (not c.is_below-3.result) ↔ (bytes ≤ dict_bytes (least_dict u values))) is (not_below c.is_below-3.result (dict_bytes (least_dict t values)) bytes (c.is_below-3.ensures values (length-frame_values form) c.requires.apart)) in (
      λ yes. frame_wins form.lane_width values bytes own deltas runs (last.0 yes),
      λ e. last.1 (subst (λ (n : ℕ). n ≤ least_bytes form.lane_width values Dict) (sym own) ((choice_of_frame form.lane_width values).0 e).2),
    )
