-- The laws of the four codings, said once of them all.
use Rattle.std.proofs.Common.{◌≡◌, ℕ, ◌<◌, ℤ, pos, List, length, refl, sym, ap, ◌∙◌}
use Rattle.transpose_order.specs.Place.{IsLaneWidth}
use Rattle.transpose_order.specs.Mask.{rows_of}
use Rattle.transpose_order.specs.MaskWords.{length-rows_of, get_or-rows_of}
use Rattle.bit_interleave.specs.Range.{AreInRange, value_at}
use Rattle.frame_delta.specs.Frame.{frame_values, least_frame}
use Rattle.frame_delta.specs.Delta.{delta_values, least_delta}
use Rattle.frame_delta.proofs.FrameLemmas.{frame_values-least_frame, least_frame_is_a_form}
use Rattle.frame_delta.proofs.DeltaLemmas.{delta_values-least_delta, least_delta_is_a_form, AreInRange-delta_values}
use Rattle.frame_delta.proofs.LeastFrame.{AreInRange-frame_values}
use Rattle.run_dictionary.specs.Runs.{run_values}
use Rattle.run_dictionary.specs.Dict.{dict_values}
use Rattle.run_dictionary.proofs.RunLemmas.{run_values-least, IsRunForm-least}
use Rattle.run_dictionary.proofs.DictLemmas.{dict_values-least, IsDictForm-least}
use Rattle.run_dictionary.proofs.RangeLemmas.{AreInRange-run_values, AreInRange-dict_values}
use Rattle.segment_core.specs.Coded.{value_in, values_of, lane_width_of, coding_of, least_form, IsCodedForm}
use Rattle.segment_core.specs.declared.coding.Coding.{Coding}
use Rattle.segment_core.specs.declared.coding.Coding.TheVariants.{For as ByFrame, Delta as ByDeltas, Runs as ByRuns, Dict as ByDictionary}
use Rattle.segment_core.specs.declared.coded.Coded.{Coded}
use Rattle.segment_core.specs.declared.coded.Coded.TheVariants.{For, Delta, Runs, Dict}

-- ---- the values are those of the rows
pub values_of-rows : (c : Coded) → values_of c ≡ rows_of (value_in c)
unfolding frame_values delta_values run_values dict_values
values_of-rows (For form) = refl
values_of-rows (Delta form) = refl
values_of-rows (Runs form) = refl
values_of-rows (Dict form) = refl

pub length-values_of : (c : Coded) → length (values_of c) ≡ 1024
length-values_of c = ap length (values_of-rows c) ∙ length-rows_of (value_in c)

pub value_at-values_of : (c : Coded) (n : ℕ) → n < 1024 → value_at (values_of c) n ≡ value_in c n
value_at-values_of c n h = ap (λ xs. value_at xs n) (values_of-rows c) ∙ get_or-rows_of (value_in c) n (pos 0) h

pub AreInRange-values_of : (c : Coded) → IsCodedForm c → AreInRange (lane_width_of c) (values_of c)
AreInRange-values_of (For form) is = AreInRange-frame_values form
AreInRange-values_of (Delta form) is = AreInRange-delta_values form
AreInRange-values_of (Runs form) is = AreInRange-run_values form is
AreInRange-values_of (Dict form) is = AreInRange-dict_values form is

-- ---- least forms
pub values_of-least_form : (coding : Coding) (t : ℕ) (values : List ℤ) → IsLaneWidth t → length values ≡ 1024 → AreInRange t values → values_of (least_form coding t values) ≡ values
values_of-least_form ByFrame t values w l r = frame_values-least_frame t values w l r
values_of-least_form ByDeltas t values w l r = delta_values-least_delta t values w l r
values_of-least_form ByRuns t values w l r = run_values-least t values l
values_of-least_form ByDictionary t values w l r = dict_values-least t values l

pub least_form_is_a_form : (coding : Coding) (t : ℕ) (values : List ℤ) → IsLaneWidth t → length values ≡ 1024 → AreInRange t values → IsCodedForm (least_form coding t values)
least_form_is_a_form ByFrame t values w l r = least_frame_is_a_form t values w l r
least_form_is_a_form ByDeltas t values w l r = least_delta_is_a_form t values w
least_form_is_a_form ByRuns t values w l r = IsRunForm-least t values w l r
least_form_is_a_form ByDictionary t values w l r = IsDictForm-least t values w l r

pub coding_of-least_form : (coding : Coding) (t : ℕ) (values : List ℤ) → coding_of (least_form coding t values) ≡ coding
coding_of-least_form ByFrame t values = refl
coding_of-least_form ByDeltas t values = refl
coding_of-least_form ByRuns t values = refl
coding_of-least_form ByDictionary t values = refl

pub lane_width_of-least_form : (coding : Coding) (t : ℕ) (values : List ℤ) → lane_width_of (least_form coding t values) ≡ t
unfolding least_frame least_delta
lane_width_of-least_form ByFrame t values = refl
lane_width_of-least_form ByDeltas t values = refl
lane_width_of-least_form ByRuns t values = refl
lane_width_of-least_form ByDictionary t values = refl

-- the value at a row of the least form of some values
pub value_in-least_form : (coding : Coding) (t : ℕ) (values : List ℤ) (n : ℕ) → IsLaneWidth t → length values ≡ 1024 → AreInRange t values → n < 1024 → value_in (least_form coding t values) n ≡ value_at values n
value_in-least_form coding t values n w l r h =
    sym (value_at-values_of (least_form coding t values) n h) ∙ ap (λ xs. value_at xs n) (values_of-least_form coding t values w l r)
