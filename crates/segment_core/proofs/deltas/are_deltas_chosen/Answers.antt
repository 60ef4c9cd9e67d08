-- DELTA is chosen where FOR takes more bytes and no other coding fewer.
use Rattle.std.proofs.Common.{◌≡◌, ◌↔◌, IsTrue, false, not, ℕ, ◌+◌, ◌<◌, ◌≤◌, ℤ, pos, List, refl, sym, ◌∙◌, ap, subst, arith}
use Rattle.frame_delta.specs.Frame.{AreAbove, frame_bytes, least_frame}
use Rattle.frame_delta.specs.Delta.{DeltaForm, delta_bytes, delta_values}
use Rattle.run_dictionary.specs.Runs.{run_bytes, least_runs}
use Rattle.run_dictionary.specs.Dict.{dict_bytes, least_dict}
use Rattle.segment_core.specs.Choice.{least_bytes}
use Rattle.segment_core.specs.declared.coding.Coding.TheVariants.{For, Delta, Runs, Dict}
use Rattle.segment_core.specs.declared.coded.Coded.TheVariants.{Delta as InDeltas}
use Rattle.segment_core.proofs.CodedLemmas.{length-values_of}
use Rattle.segment_core.proofs.ChoiceLemmas.{at_least, choice_of_deltas}
use Rattle.segment_core.proofs.ChosenLemmas.{not_fewest, not_first, not_below, deltas_win}
use Rattle.segment_core.proofs.deltas.are_deltas_chosen.Goals as goal

pub returns-then-is_below : goal.returns-then-is_below
returns-then-is_below c =
    let form : DeltaForm = c.args.form.now in
    let values : List ℤ = delta_values form in
    let bytes : ℕ = c.bytes_len-bytes.result in
    let own : bytes ≡ least_bytes form.lane_width values Delta = c.bytes_len-bytes.ensures ∙ ap delta_bytes c.requires.least in
    let is : c.lane_width-lane_width.result ≡ form.lane_width = c.lane_width-lane_width.ensures.value in
    let above = subst (λ (t : ℕ). AreAbove t (pos 0) c.args.numbers.now values) (sym is) c.requires.values in
    let less : frame_bytes (least_frame form.lane_width values) < bytes + 1 = subst (λ (t : ℕ). frame_bytes (least_frame t values) < bytes + 1) is ((c.if-is_below.ensures values (length-values_of (InDeltas form)) above).0 refl) in
    let most : frame_bytes (least_frame form.lane_width values) ≤ bytes = omega arith in (
      λ no. absurd (cc),
      λ e. absurd (not_first form.lane_width values Delta For bytes own (omega arith) most e),
    )

pub returns-then-is_below-2 : goal.returns-then-is_below-2
returns-then-is_below-2 c =
    let form : DeltaForm = c.args.form.now in
    let values : List ℤ = delta_values form in
    let bytes : ℕ = c.bytes_len-bytes.result in
    let own : bytes ≡ least_bytes form.lane_width values Delta = c.bytes_len-bytes.ensures ∙ ap delta_bytes c.requires.least in
    let is : c.lane_width-lane_width.result ≡ form.lane_width = c.lane_width-lane_width.ensures.value in
    let less = subst (λ (t : ℕ). run_bytes (least_runs t values) < bytes) is ((c.if-is_below-2.ensures values (length-values_of (InDeltas form)) c.requires.apart).0 refl) in (
      λ no. absurd (cc),
      λ e. absurd (not_fewest form.lane_width values Delta Runs bytes own less e),
    )

pub returns : goal.returns
returns c =
    let form : DeltaForm = c.args.form.now in
    let t : ℕ = c.lane_width-lane_width.result in
    let values : List ℤ = delta_values form in
    let bytes : ℕ = c.bytes_len-bytes.result in
    let own : bytes ≡ least_bytes form.lane_width values Delta = c.bytes_len-bytes.ensures ∙ ap delta_bytes c.requires.least in
    let is : t ≡ form.lane_width = c.lane_width-lane_width.ensures.value in
    let above = subst (λ (u : ℕ). AreAbove u (pos 0) c.args.numbers.now values) (sym is) c.requires.values in
    let frame : bytes + 1 ≤ frame_bytes (least_frame form.lane_width values) = subst (λ (u : ℕ). bytes + 1 ≤ frame_bytes (least_frame u values)) is (at_least false (frame_bytes (least_frame t values)) (bytes + 1) (c.if-is_below.ensures values (length-values_of (InDeltas form)) above) refl) in
    let more : bytes < frame_bytes (least_frame form.lane_width values) = omega arith in
    let runs = subst (λ (u : ℕ). bytes ≤ run_bytes (least_runs u values)) is (at_least false (run_bytes (least_runs t values)) bytes (c.if-is_below-2.ensures values (length-values_of (InDeltas form)) c.requires.apart) refl) in
    let last = subst (λ (u : ℕ). IsTrue (not c.is_below-3.result) ↔ (bytes ≤ dict_bytes (least_dict u values))) is (not_below c.is_below-3.result (dict_bytes (least_dict t values)) bytes (c.is_below-3.ensures values (length-values_of (InDeltas form)) c.requires.apart)) in (
      λ yes. deltas_win form.lane_width values bytes own more runs (last.0 yes),
      λ e. last.1 (subst (λ (n : ℕ). n ≤ least_bytes form.lane_width values Dict) (sym own) ((choice_of_deltas form.lane_width values).0 e).2),
    )
