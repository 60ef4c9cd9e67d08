-- The value of a frame without packed numbers.
use Rattle.std.proofs.Common.{◌≡◌, ℕ, ◌+◌, ◌*◌, pos, ◌+ℤ◌, ap, ◌∙◌, arith}
use Rattle.std.specs.Int.{int_wrap}
use Rattle.std.proofs.lemmas.Int.{ints, int_wrap_fits}
use Rattle.transpose_order.specs.MaskWords.{number_of_bits-zero}
use Rattle.transpose_order.specs.Mask.{number_of_bits}
use Rattle.transpose_order.specs.Place.{lane_of, step_of}
use Rattle.bit_interleave.specs.Arithmetic.{integer_width}
use Rattle.bit_interleave.specs.Packing.{packed_value, lane_bit}
use Rattle.frame_delta.specs.Frame.{FrameForm, IsFrameForm, frame_value}

pub reference_is_value : (form : FrameForm) (n : ℕ) → IsFrameForm form → form.width ≡ 0 → frame_value form n ≡ form.reference
unfolding frame_value packed_value
reference_is_value form n is none =
    let t = form.lane_width in
    let lane = lane_of t n in
    let step = step_of t n in
    let nothing : form.reference +ℤ pos 0 ≡ form.reference = omega (arith, ints) in
    ap (λ w. int_wrap (integer_width t) (form.reference +ℤ pos (number_of_bits w (λ c. lane_bit t form.words.numbers lane (step * w + c))))) none
    ∙ ap (λ k. int_wrap (integer_width t) (form.reference +ℤ pos k)) (number_of_bits-zero (λ c. lane_bit t form.words.numbers lane (step * 0 + c)))
    ∙ ap (int_wrap (integer_width t)) nothing
    ∙ int_wrap_fits (integer_width t) form.reference is.reference
