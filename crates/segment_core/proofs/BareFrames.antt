-- A frame without packed numbers is the canonical form of 1024 values that are all its reference.
use Rattle.std.proofs.Common.{◌≡◌, ℕ, ◌<◌, ◌-◌, ◌*◌, ◌/◌, Bool, true, pos, ◌+ℤ◌, List, [], length, sym, ◌∙◌, ap, arith}
use Rattle.std.specs.Int.{int_wrap}
use Rattle.std.proofs.lemmas.Int.{ints, int_wrap_fits}
use Rattle.std.proofs.lemmas.List.{nil_from_length}
use Rattle.transpose_order.specs.Place.{lane_of, step_of}
use Rattle.bit_interleave.specs.Arithmetic.{integer_width}
use Rattle.bit_interleave.specs.Packing.{packed_value}
use Rattle.bit_interleave.specs.Range.{value_at}
use Rattle.bit_interleave.proofs.StepLemmas.{value_of_nothing}
use Rattle.frame_delta.specs.Frame.{FrameForm, IsFrameForm, frame_value, frame_values, frame_width, least_frame}
use Rattle.frame_delta.proofs.FrameLemmas.{value_at-frame_values, length-frame_values}
use Rattle.frame_delta.proofs.SameValues.{width_same, frame_same}
use Rattle.segment_core.specs.Choice.{choice, least_bytes}
use Rattle.segment_core.specs.CanonicalForm.{IsCanonicalForm}
use Rattle.segment_core.specs.declared.coding.Coding.TheVariants.{For as ByFrame}
use Rattle.segment_core.specs.declared.coded.Coded.TheVariants.{For as InFrame}
use Rattle.segment_core.proofs.ChoiceLemmas.{bare_frame_is_first}

module _ (form : FrameForm) (is : IsFrameForm form) (bare : form.width ≡ 0) where
  pub value_of_bare : (n : ℕ) → n < 1024 → value_at (frame_values form) n ≡ form.reference
  unfolding frame_value
  value_of_bare n l =
      let t = form.lane_width in
      let none : packed_value t form.width form.words.numbers (lane_of t n) (step_of t n) ≡ 0 = sym (value_of_nothing t form.width form.words.numbers (lane_of t n) (step_of t n) bare) in
      let alone : form.reference +ℤ pos 0 ≡ form.reference = omega (arith, ints) in
      value_at-frame_values form n l
      ∙ ap (λ x. int_wrap (integer_width t) (form.reference +ℤ pos x)) none
      ∙ ap (int_wrap (integer_width t)) alone
      ∙ int_wrap_fits (integer_width t) form.reference is.reference

  no_words : form.words.numbers ≡ []
  no_words =
      let none : length form.words.numbers ≡ 0 = is.packed.count ∙ ap (λ w. w * (1024 / form.words.lane_width)) bare ∙ (let zero : 0 * (1024 / form.words.lane_width) ≡ 0 = omega arith in zero) in
      nil_from_length form.words.numbers none

  least_of_bare : form ≡ least_frame form.lane_width (frame_values form)
  least_of_bare =
      (λ i. record { lane_width = form.lane_width; width = bare i; reference = form.reference; words = record { lane_width = is.words i; numbers = no_words i } })
      ∙ frame_same (frame_values form) form.reference value_of_bare form.lane_width

  bytes_of_bare : least_bytes form.lane_width (frame_values form) ByFrame ≡ form.lane_width / 8
  unfolding least_frame
  bytes_of_bare = let w : frame_width (frame_values form) ≡ 0 = width_same (frame_values form) form.reference value_of_bare in omega (arith, w)

  choice_of_bare : choice form.lane_width (frame_values form) ≡ ByFrame
  unfolding choice
  choice_of_bare = bare_frame_is_first form.lane_width (frame_values form) is.lane_width (length-frame_values form) bytes_of_bare

  pub bare_is_canonical : (rows : List Bool) (valueless : Bool) → (valueless ≡ true → form.reference ≡ pos 0) → IsCanonicalForm rows valueless (InFrame form)
  bare_is_canonical rows valueless zero = record {
    filled = record {
      each = λ n some l m. value_of_bare n l ∙ sym (value_of_bare (n - 1) (omega arith));
      zero = λ v. value_of_bare 0 (omega arith) ∙ zero v;
    };
    least = ap InFrame least_of_bare;
    chosen = choice_of_bare;
  }
