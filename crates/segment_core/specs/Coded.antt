-- The values of a vector in one of the four codings.
use Rattle.std.specs.Prelude.{◌≡◌, ℕ, ℤ, List, length}
use Rattle.transpose_order.specs.Place.{IsLaneWidth}
use Rattle.bit_interleave.specs.Range.{AreInRange}
use Rattle.frame_delta.specs.Frame.{frame_value, frame_values, frame_bytes, least_frame, IsFrameForm}
use Rattle.frame_delta.specs.Delta.{delta_value, delta_values, delta_bytes, least_delta, IsDeltaForm}
use Rattle.run_dictionary.specs.Runs.{run_value, run_values, run_bytes, least_runs, IsRunForm}
use Rattle.run_dictionary.specs.Dict.{dict_value, dict_values, dict_bytes, least_dict, IsDictForm}
use Rattle.segment_core.specs.declared.coding.Coding.{Coding}
use Rattle.segment_core.specs.declared.coding.Coding.TheVariants.{For as ByFrame, Delta as ByDeltas, Runs as ByRuns, Dict as ByDictionary}
use Rattle.segment_core.specs.declared.coded.Coded.{Coded}
use Rattle.segment_core.specs.declared.coded.Coded.TheVariants.{For, Delta, Runs, Dict}

-- the value at row n
abbrev pub value_in : Coded → ℕ → ℤ
value_in (For form) n = frame_value form n
value_in (Delta form) n = delta_value form n
value_in (Runs form) n = run_value form n
value_in (Dict form) n = dict_value form n

-- the 1024 values in row order
abbrev pub values_of : Coded → List ℤ
values_of (For form) = frame_values form
values_of (Delta form) = delta_values form
values_of (Runs form) = run_values form
values_of (Dict form) = dict_values form

-- the lane width of the values
abbrev pub lane_width_of : Coded → ℕ
lane_width_of (For form) = form.lane_width
lane_width_of (Delta form) = form.lane_width
lane_width_of (Runs form) = form.lane_width
lane_width_of (Dict form) = form.lane_width

-- which coding it is
abbrev pub coding_of : Coded → Coding
coding_of (For form) = ByFrame
coding_of (Delta form) = ByDeltas
coding_of (Runs form) = ByRuns
coding_of (Dict form) = ByDictionary

-- the bytes of the payload
abbrev pub payload_bytes : Coded → ℕ
payload_bytes (For form) = frame_bytes form
payload_bytes (Delta form) = delta_bytes form
payload_bytes (Runs form) = run_bytes form
payload_bytes (Dict form) = dict_bytes form

-- the parts are a form of their coding
abbrev pub IsCodedForm : Coded → Type 0
IsCodedForm (For form) = IsFrameForm form
IsCodedForm (Delta form) = IsDeltaForm form
IsCodedForm (Runs form) = IsRunForm form
IsCodedForm (Dict form) = IsDictForm form

-- the least form that a coding has of 1024 values at a lane width
abbrev pub least_form : Coding → ℕ → List ℤ → Coded
least_form ByFrame t values = For (least_frame t values)
least_form ByDeltas t values = Delta (least_delta t values)
least_form ByRuns t values = Runs (least_runs t values)
least_form ByDictionary t values = Dict (least_dict t values)

-- the least form that a coding has of values represents them
abbrev pub LeastFormGivesBack : Type 0
LeastFormGivesBack =
    (coding : Coding) (t : ℕ) (values : List ℤ) → IsLaneWidth t → length values ≡ 1024 → AreInRange t values → values_of (least_form coding t values) ≡ values
