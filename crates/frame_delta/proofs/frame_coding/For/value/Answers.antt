-- The packed number of the row's lane and step is added to the reference.
use Rattle.std.proofs.Common.{◌≡◌, ℕ, ℤ, pos, ◌+ℤ◌, rules, sym, ap, ◌∙◌, subst, FitsSigned}
use Rattle.std.specs.Int.{w64, int_wrap}
use Rattle.std.proofs.lemmas.Int.{to_z-of_z}
use Rattle.transpose_order.specs.Place.{lane_of, step_of}
use Rattle.bit_interleave.specs.Arithmetic.{integer_width}
use Rattle.bit_interleave.specs.Packing.{packed_value}
use Rattle.frame_delta.specs.Frame.{FrameForm, frame_value}
use Rattle.frame_delta.proofs.LeastFrame.{frame_value_fits}
use Rattle.frame_delta.proofs.frame_coding.For.value.Goals as goal

pub returns-clause-value : goal.returns-clause-value
unfolding frame_value
returns-clause-value c =
    let t = c.lane_width-lane_width.result in
    let n = c.args.row in
    let r = c.self.inside.reference in
    let w = c.self.inside.width in
    let words = c.self.inside.words in
    let form : ℕ → FrameForm = λ k. record { lane_width = k; width = w; reference = r; words = words } in
    let same = c.lane_width-lane_width.ensures.value in
    let fits : FitsSigned w64 r = search rules in
    let made : FitsSigned w64 c.wrapping_sum_with.result = search rules in
    let number : c.value-number.result ≡ packed_value t w words.numbers (lane_of t n) (step_of t n) =
    c.value-number.ensures.value
    ∙ ap (λ k. packed_value k w words.numbers c.place-lane.result.0 c.place-lane.result.1) (sym same)
    ∙ ap (λ l. packed_value t w words.numbers l c.place-lane.result.1) c.place-lane.ensures.lane
    ∙ ap (packed_value t w words.numbers (lane_of t n)) c.place-lane.ensures.step in
    to_z-of_z w64 c.wrapping_sum_with.result made ∙ c.wrapping_sum_with.ensures
    ∙ ap (λ z. int_wrap (integer_width t) (z +ℤ pos c.value-number.result)) (to_z-of_z w64 r fits)
    ∙ ap (λ g. int_wrap (integer_width t) (r +ℤ pos g)) number
    ∙ ap (λ k. frame_value (form k) n) same ∙ ap (λ f. frame_value f n) c.self.view_is

pub returns-clause-fits : goal.returns-clause-fits
returns-clause-fits c =
    subst (λ (z : ℤ). FitsSigned (integer_width c.args.self.now.lane_width) z) (sym (returns-clause-value c)) (frame_value_fits c.args.self.now c.args.row)
