-- RLE is chosen where FOR and DELTA take more bytes and DICT no fewer.
use Rattle.std.proofs.Common.{◌≡◌, Bool, false, ℕ, ◌+◌, ◌/◌, ◌<◌, ◌≤◌, ℤ, List, refl, sym, ◌∙◌, ap, subst, arith}
use Rattle.transpose_order.specs.Mask.{rows_of}
use Rattle.bit_interleave.specs.Range.{value_at}
use Rattle.frame_delta.specs.Delta.{delta_bytes, least_delta}
use Rattle.run_dictionary.specs.Runs.{RunForm, run_bytes, run_values, changes_at}
use Rattle.run_dictionary.specs.Dict.{dict_bytes, least_dict}
use Rattle.segment_core.specs.Choice.{least_bytes}
use Rattle.segment_core.specs.LaterRows.{IsMixedWithin}
use Rattle.segment_core.specs.declared.coding.Coding.TheVariants.{For, Runs, Dict}
use Rattle.segment_core.specs.declared.coded.Coded.TheVariants.{Runs as InRuns}
use Rattle.segment_core.proofs.CodedLemmas.{length-values_of, AreInRange-values_of}
use Rattle.segment_core.proofs.ChoiceLemmas.{at_least, choice_of_runs}
use Rattle.segment_core.proofs.ChosenLemmas.{not_fewest, not_first, not_below, runs_win, frame_of_ends}
use Rattle.segment_core.proofs.LaterDeltas.{deltas_have_a_bit, bytes_with_a_bit}
use Rattle.segment_core.proofs.runs.are_runs_chosen.Goals as goal

pub returns-then-frame_bytes-bytes : goal.returns-then-frame_bytes-bytes
returns-then-frame_bytes-bytes c =
    let form : RunForm = c.args.form.now in
    let values : List ℤ = run_values form in
    let bytes : ℕ = c.bytes_len-bytes.result in
    let own : bytes ≡ least_bytes form.lane_width values Runs = c.bytes_len-bytes.ensures ∙ ap run_bytes c.requires in
    let size = frame_of_ends (InRuns form) c.lane_width-lane_width.result c.frame_bytes.result c.extremes-least.result.0 c.extremes-least.result.1 c.lane_width-lane_width.ensures.form c.lane_width-lane_width.ensures.value c.frame_bytes.ensures c.extremes-least.ensures.bounds c.extremes-least.ensures.least c.extremes-least.ensures.greatest in
    let most = subst (λ (n : ℕ). n ≤ bytes) size c.if-frame_bytes-bytes.true in (
      λ no. absurd (cc),
      λ e. absurd (not_first form.lane_width values Runs For bytes own (omega arith) most e),
    )

pub returns-then-dictionary_is_below : goal.returns-then-dictionary_is_below
returns-then-dictionary_is_below c =
    let form : RunForm = c.args.form.now in
    let values : List ℤ = run_values form in
    let bytes : ℕ = c.bytes_len-bytes.result in
    let own : bytes ≡ least_bytes form.lane_width values Runs = c.bytes_len-bytes.ensures ∙ ap run_bytes c.requires in (
      λ no. absurd (cc),
      λ e. absurd (not_fewest form.lane_width values Runs Dict bytes own (c.if-dictionary_is_below.ensures.0 refl) e),
    )

pub returns-then-are_mixed_within : goal.returns-then-are_mixed_within
returns-then-are_mixed_within c =
    let form : RunForm = c.args.form.now in
    let t : ℕ = c.lane_width-lane_width.result in
    let values : List ℤ = run_values form in
    let bytes : ℕ = c.bytes_len-bytes.result in
    let own : bytes ≡ least_bytes form.lane_width values Runs = c.bytes_len-bytes.ensures ∙ ap run_bytes c.requires in
    let is : t ≡ form.lane_width = c.lane_width-lane_width.ensures.value in
    let size = frame_of_ends (InRuns form) t c.frame_bytes.result c.extremes-least.result.0 c.extremes-least.result.1 c.lane_width-lane_width.ensures.form is c.frame_bytes.ensures c.extremes-least.ensures.bounds c.extremes-least.ensures.least c.extremes-least.ensures.greatest in
    let frame = subst (λ (n : ℕ). bytes < n) size c.if-frame_bytes-bytes.false in
    let dictionary = at_least false (dict_bytes (least_dict form.lane_width values)) bytes c.if-dictionary_is_below.ensures refl in
    let starts : c.starts.result.now ≡ rows_of (changes_at (value_at values)) = c.starts.ensures.value ∙ ap (λ (f : RunForm). f.starts) c.requires in
    let mixed = subst (λ (mask : List Bool). IsMixedWithin t mask) starts (c.if-are_mixed_within.ensures.0 refl) in
    let here = subst (λ (u : ℕ). IsMixedWithin u (rows_of (changes_at (value_at values)))) is mixed in
    let some = deltas_have_a_bit form.lane_width values c.lane_width-lane_width.ensures.form.lane_width (length-values_of (InRuns form)) (AreInRange-values_of (InRuns form) c.lane_width-lane_width.ensures.form) here in
    let less : bytes < form.lane_width / 8 + 256 = subst (λ (u : ℕ). bytes < u / 8 + 256) is (subst (λ (n : ℕ). bytes < n) c.bytes_of_one_bit.ensures c.if-bytes-bytes_of_one_bit.true) in
    let deltas : bytes < delta_bytes (least_delta form.lane_width values) = bytes_with_a_bit form.lane_width values bytes some less in (
      λ _. runs_win form.lane_width values bytes own frame deltas dictionary,
      λ _. refl,
    )

pub returns : goal.returns
returns c =
    let form : RunForm = c.args.form.now in
    let t : ℕ = c.lane_width-lane_width.result in
    let values : List ℤ = run_values form in
    let bytes : ℕ = c.bytes_len-bytes.result in
    let own : bytes ≡ least_bytes form.lane_width values Runs = c.bytes_len-bytes.ensures ∙ ap run_bytes c.requires in
    let is : t ≡ form.lane_width = c.lane_width-lane_width.ensures.value in
    let size = frame_of_ends (InRuns form) t c.frame_bytes.result c.extremes-least.result.0 c.extremes-least.result.1 c.lane_width-lane_width.ensures.form is c.frame_bytes.ensures c.extremes-least.ensures.bounds c.extremes-least.ensures.least c.extremes-least.ensures.greatest in
    let frame = subst (λ (n : ℕ). bytes < n) size c.if-frame_bytes-bytes.false in
    let dictionary = at_least false (dict_bytes (least_dict form.lane_width values)) bytes c.if-dictionary_is_below.ensures refl in
    let last = not_below c.are_deltas_below.result (delta_bytes (least_delta form.lane_width values)) (bytes + 1) c.are_deltas_below.ensures in (
      λ yes. let more : bytes + 1 ≤ delta_bytes (least_delta form.lane_width values) = last.0 yes in
          let deltas : bytes < delta_bytes (least_delta form.lane_width values) = omega arith in
          runs_win form.lane_width values bytes own frame deltas dictionary,
      λ e. let deltas = subst (λ (n : ℕ). n < delta_bytes (least_delta form.lane_width values)) (sym own) ((choice_of_runs form.lane_width values).0 e).1 in last.1 (omega arith),
    )
