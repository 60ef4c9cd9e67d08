-- DICT is chosen where each other coding takes more bytes.
use Rattle.std.proofs.Common.{◌≡◌, false, ℕ, ◌+◌, ◌<◌, ◌≤◌, ℤ, List, refl, sym, ◌∙◌, ap, subst, arith}
use Rattle.frame_delta.specs.Delta.{delta_bytes, least_delta}
use Rattle.run_dictionary.specs.Runs.{run_bytes, least_runs}
use Rattle.run_dictionary.specs.Dict.{DictForm, dict_bytes, dict_values}
use Rattle.segment_core.specs.Choice.{least_bytes}
use Rattle.segment_core.specs.declared.coding.Coding.TheVariants.{For, Runs, Dict}
use Rattle.segment_core.specs.declared.coded.Coded.TheVariants.{Dict as InDictionary}
use Rattle.segment_core.proofs.CodedLemmas.{length-values_of}
use Rattle.segment_core.proofs.ChoiceLemmas.{at_least, choice_of_dictionary}
use Rattle.segment_core.proofs.ChosenLemmas.{not_first, not_below, dictionary_wins, frame_of_ends}
use Rattle.segment_core.proofs.dictionaries.is_dictionary_chosen.Goals as goal

pub returns-then-frame_bytes-bytes : goal.returns-then-frame_bytes-bytes
returns-then-frame_bytes-bytes c =
    let form : DictForm = c.args.form.now in
    let values : List ℤ = dict_values form in
    let bytes : ℕ = c.bytes_len-bytes.result in
    let own : bytes ≡ least_bytes form.lane_width values Dict = c.bytes_len-bytes.ensures ∙ ap dict_bytes c.requires.least in
    let size = frame_of_ends (InDictionary form) c.lane_width-lane_width.result c.frame_bytes.result c.ends-least.result.0 c.ends-least.result.1 c.lane_width-lane_width.ensures.form c.lane_width-lane_width.ensures.value c.frame_bytes.ensures c.ends-least.ensures.bounds c.ends-least.ensures.least c.ends-least.ensures.greatest in
    let most = subst (λ (n : ℕ). n ≤ bytes) size c.if-frame_bytes-bytes.true in (
      λ no. absurd (cc),
      λ e. absurd (not_first form.lane_width values Dict For bytes own (omega arith) most e),
    )

pub returns-then-is_below : goal.returns-then-is_below
returns-then-is_below c =
    let form : DictForm = c.args.form.now in
    let values : List ℤ = dict_values form in
    let bytes : ℕ = c.bytes_len-bytes.result in
    let own : bytes ≡ least_bytes form.lane_width values Dict = c.bytes_len-bytes.ensures ∙ ap dict_bytes c.requires.least in
    let less : run_bytes (least_runs form.lane_width values) < bytes + 1 = subst (λ (t : ℕ). run_bytes (least_runs t values) < bytes + 1) c.lane_width-lane_width.ensures.value ((c.if-is_below.ensures values (length-values_of (InDictionary form)) c.requires.apart).0 refl) in
    let most : run_bytes (least_runs form.lane_width values) ≤ bytes = omega arith in (
      λ no. absurd (cc),
      λ e. absurd (not_first form.lane_width values Dict Runs bytes own (omega arith) most e),
    )

pub returns : goal.returns
returns c =
    let form : DictForm = c.args.form.now in
    let t : ℕ = c.lane_width-lane_width.result in
    let values : List ℤ = dict_values form in
    let bytes : ℕ = c.bytes_len-bytes.result in
    let own : bytes ≡ least_bytes form.lane_width values Dict = c.bytes_len-bytes.ensures ∙ ap dict_bytes c.requires.least in
    let is : t ≡ form.lane_width = c.lane_width-lane_width.ensures.value in
    let size = frame_of_ends (InDictionary form) t c.frame_bytes.result c.ends-least.result.0 c.ends-least.result.1 c.lane_width-lane_width.ensures.form is c.frame_bytes.ensures c.ends-least.ensures.bounds c.ends-least.ensures.least c.ends-least.ensures.greatest in
    let frame = subst (λ (n : ℕ). bytes < n) size c.if-frame_bytes-bytes.false in
    let few : bytes + 1 ≤ run_bytes (least_runs form.lane_width values) = subst (λ (u : ℕ). bytes + 1 ≤ run_bytes (least_runs u values)) is (at_least false (run_bytes (least_runs t values)) (bytes + 1) (c.if-is_below.ensures values (length-values_of (InDictionary form)) c.requires.apart) refl) in
    let runs : bytes < run_bytes (least_runs form.lane_width values) = omega arith in
    let last = not_below c.are_deltas_below.result (delta_bytes (least_delta form.lane_width values)) (bytes + 1) c.are_deltas_below.ensures in (
      λ yes. let more : bytes + 1 ≤ delta_bytes (least_delta form.lane_width values) = last.0 yes in
          let deltas : bytes < delta_bytes (least_delta form.lane_width values) = omega arith in
          dictionary_wins form.lane_width values bytes own frame deltas runs,
      λ e. let deltas = subst (λ (n : ℕ). n < delta_bytes (least_delta form.lane_width values)) (sym own) ((choice_of_dictionary form.lane_width values).0 e).1 in last.1 (omega arith),
    )
