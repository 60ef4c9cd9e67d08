-- Segments by codes of their parts.
use Rattle.std.specs.Prelude.{◌≡◌, ◌⊎◌, ℕ, ℤ, Bool, List, Option, refl}
use Rattle.std.proofs.Common.{inl, inr}
use Rattle.std.specs.Coded.{Coded, code_by, coded×, coded⊎, coded_ℕ, coded_ℤ, coded_bool, coded_list, coded_option}
use Rattle.table_model.specs.State.{Batch, coded_batch}
use Rattle.bit_interleave.specs.PackedWords.{PackedWords}
use Rattle.frame_delta.specs.Frame.{FrameForm}
use Rattle.frame_delta.specs.Delta.{DeltaForm}
use Rattle.run_dictionary.specs.Runs.{RunForm}
use Rattle.run_dictionary.specs.Dict.{DictForm}
use Rattle.segment_core.specs.CodedVector.{VectorForm}
use Rattle.segment_core.specs.Segment.{SegmentForm}
use Rattle.segment_core.specs.declared.coded.Coded.{Coded as Payload}
use Rattle.segment_core.specs.declared.coded.Coded.TheVariants.{For, Delta, Runs, Dict}

-- packed words by their lane width and numbers
abbrev pub coded_words : Coded PackedWords
coded_words = code_by (ℕ × List ℕ) (coded× coded_ℕ (coded_list coded_ℕ)) (λ w. (w.lane_width, w.numbers)) (λ p. record { lane_width = p.0; numbers = p.1 }) (λ _. refl)

-- a form of FOR by its parts
abbrev pub coded_frame : Coded FrameForm
coded_frame =
    code_by (ℕ × (ℕ × (ℤ × PackedWords))) (coded× coded_ℕ (coded× coded_ℕ (coded× coded_ℤ coded_words)))
    (λ f. (f.lane_width, (f.width, (f.reference, f.words)))) (λ p. record { lane_width = p.0; width = p.1.0; reference = p.1.1.0; words = p.1.1.1 }) (λ _. refl)

-- a form of DELTA by its parts
abbrev pub coded_delta : Coded DeltaForm
coded_delta =
    code_by (ℕ × (ℕ × (ℤ × (List ℤ × PackedWords)))) (coded× coded_ℕ (coded× coded_ℕ (coded× coded_ℤ (coded× (coded_list coded_ℤ) coded_words))))
    (λ f. (f.lane_width, (f.width, (f.least, (f.bases, f.words))))) (λ p. record { lane_width = p.0; width = p.1.0; least = p.1.1.0; bases = p.1.1.1.0; words = p.1.1.1.1 }) (λ _. refl)

-- a form of RLE by its parts
abbrev pub coded_runs : Coded RunForm
coded_runs =
    code_by (ℕ × (List Bool × List ℤ)) (coded× coded_ℕ (coded× (coded_list coded_bool) (coded_list coded_ℤ)))
    (λ f. (f.lane_width, (f.starts, f.values))) (λ p. record { lane_width = p.0; starts = p.1.0; values = p.1.1 }) (λ _. refl)

-- a form of DICT by its parts
abbrev pub coded_dict : Coded DictForm
coded_dict =
    code_by (ℕ × (ℕ × (List ℤ × PackedWords))) (coded× coded_ℕ (coded× coded_ℕ (coded× (coded_list coded_ℤ) coded_words)))
    (λ f. (f.lane_width, (f.width, (f.values, f.codes)))) (λ p. record { lane_width = p.0; width = p.1.0; values = p.1.1.0; codes = p.1.1.1 }) (λ _. refl)

-- a form of one of the four codings
abbrev pub PayloadParts : Type 0
PayloadParts = FrameForm ⊎ (DeltaForm ⊎ (RunForm ⊎ DictForm))

-- the form that coded values have
abbrev pub payload_parts : Payload → PayloadParts
payload_parts (For form) = inl form
payload_parts (Delta form) = inr (inl form)
payload_parts (Runs form) = inr (inr (inl form))
payload_parts (Dict form) = inr (inr (inr form))

-- coded values of a form
abbrev pub payload_of : PayloadParts → Payload
payload_of (inl form) = For form
payload_of (inr (inl form)) = Delta form
payload_of (inr (inr (inl form))) = Runs form
payload_of (inr (inr (inr form))) = Dict form

-- the form of coded values gives them back
pub payload_again : (p : Payload) → payload_of (payload_parts p) ≡ p
payload_again (For form) = refl
payload_again (Delta form) = refl
payload_again (Runs form) = refl
payload_again (Dict form) = refl

-- the values of a vector by their coding
abbrev pub coded_payload : Coded Payload
coded_payload = code_by PayloadParts (coded⊎ coded_frame (coded⊎ coded_delta (coded⊎ coded_runs coded_dict))) payload_parts payload_of payload_again

-- a vector by its parts
abbrev pub coded_vector : Coded VectorForm
coded_vector =
    code_by (ℕ × (Option (List Bool) × Payload)) (coded× coded_ℕ (coded× (coded_option (coded_list coded_bool)) coded_payload))
    (λ v. (v.rows, (v.nulls, v.coded))) (λ p. record { rows = p.0; nulls = p.1.0; coded = p.1.1 }) (λ _. refl)

-- a segment by its rows and its vectors
abbrev pub coded_segment : Coded SegmentForm
coded_segment =
    code_by (Batch × List (List VectorForm)) (coded× coded_batch (coded_list (coded_list coded_vector)))
    (λ s. (s.rows, s.forms)) (λ p. record { rows = p.0; forms = p.1 }) (λ _. refl)
