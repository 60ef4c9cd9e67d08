-- Each step adds its delta, so that the sum after the row's step wraps to the row's value.
use Rattle.std.proofs.Common.{◌≡◌, ℕ, suc, ◌+◌, ◌/◌, ◌%◌, ◌^◌, ◌<◌, ℤ, pos, ◌+ℤ◌, List, length, rules, arith, sym, ap, ◌∙◌, subst, FitsSigned, add-one}
use Rattle.std.specs.Int.{w64, int_wrap, cast_unsigned}
use Rattle.std.proofs.lemmas.Int.{to_z-of_z}
use Rattle.transpose_order.specs.Place.{step_of}
use Rattle.transpose_order.proofs.PlaceLemmas.{row_at-lane_of}
use Rattle.bit_interleave.specs.Arithmetic.{integer_width}
use Rattle.bit_interleave.specs.Packing.{packed_value}
use Rattle.bit_interleave.specs.PackedWords.{packed_width}
use Rattle.bit_interleave.specs.Range.{value_at}
use Rattle.bit_interleave.proofs.WrapLemmas.{fits_wide}
use Rattle.frame_delta.specs.Delta.{DeltaForm, sum_to, delta_at, delta_value}
use Rattle.frame_delta.proofs.FrameLemmas.{column_fits}
use Rattle.frame_delta.proofs.DeltaLemmas.{sums_start, sums_step, delta_value_fits}
use Rattle.frame_delta.proofs.delta_coding.Delta.value.Goals as goal

pub loop-step-init : goal.loop-step-init
loop-step-init c =
    let t = c.lane_width-lane_width.result in
    let lane = c.place-lane.result.0 in
    let bases : List ℤ = c.self.inside.bases.values in
    let words = c.self.inside.words in
    let same = c.lane_width-lane_width.ensures.value in
    let near : lane < length bases = omega (arith, c.place-lane.ensures.lane, (row_at-lane_of t c.args.row c.lane_width-lane_width.ensures.width c.requires).0, c.self.invariant.0.base_count, ap (λ (n : ℕ). 1024 / n) same) in
    let found : FitsSigned w64 c.get.result = search rules in
    let fits : FitsSigned w64 (value_at bases lane) = fits_wide words.lane_width (value_at bases lane) c.self.invariant.0.lane_width (column_fits words.lane_width bases lane near c.self.invariant.0.bases) in
    ap (λ x. int_wrap (integer_width t) (pos x)) (c.cast_unsigned-sum.ensures ∙ ap (cast_unsigned w64) (to_z-of_z w64 c.get.result found ∙ c.get.ensures.value))
    ∙ sums_start t (value_at bases lane) (λ s. c.self.inside.least +ℤ pos (packed_value t (packed_width words) words.numbers lane s)) c.lane_width-lane_width.ensures.width fits

pub loop-step-preserved : goal.loop-step-preserved
loop-step-preserved c =
    let t = c.lane_width-lane_width.result in
    let lane = c.place-lane.result.0 in
    let k = c.loop-step.step in
    let r = c.self.inside.least in
    let words = c.self.inside.words in
    let w = packed_width words in
    let base = value_at c.self.inside.bases.values lane in
    let g : ℕ → ℤ = λ s. r +ℤ pos (packed_value t w words.numbers lane s) in
    let fits : FitsSigned w64 r = search rules in
    let bits = c.cast_unsigned-least.ensures ∙ ap (cast_unsigned w64) (to_z-of_z w64 r fits) in
    let number : c.value-number.result ≡ packed_value t w words.numbers lane k = c.value-number.ensures.value ∙ ap (λ v. packed_value words.lane_width v words.numbers lane k) c.packed_width-width.ensures ∙ ap (λ n. packed_value n w words.numbers lane k) (sym c.lane_width-lane_width.ensures.value) in
    ap (λ x. int_wrap (integer_width t) (pos (((c.loop-step.sum + x) % 2 ^ 64 + c.value-number.result) % 2 ^ 64))) bits
    ∙ sums_step t c.loop-step.sum c.value-number.result k base r g c.lane_width-lane_width.ensures.width fits c.loop-step.invariant (ap (λ x. r +ℤ pos x) (sym number))
    ∙ ap (λ (n : ℕ). int_wrap (integer_width t) (base +ℤ sum_to n g)) (sym (add-one k))

pub returns-clause-value : goal.returns-clause-value
unfolding delta_value delta_at
returns-clause-value c =
    let t = c.lane_width-lane_width.result in
    let n = c.args.row in
    let r = c.self.inside.least in
    let words = c.self.inside.words in
    let w = packed_width words in
    let bases : List ℤ = c.self.inside.bases.values in
    let form : ℕ → DeltaForm = λ k. record { lane_width = k; width = w; least = r; bases = bases; words = words } in
    let sum_at : ℕ → ℕ → ℤ = λ l s. int_wrap (integer_width t) (value_at bases l +ℤ sum_to s (λ i. r +ℤ pos (packed_value t w words.numbers l i))) in
    let made : FitsSigned w64 c.wrap.result = search rules in
    let all : c.loop-step.step ≡ suc (step_of t n) = omega (arith, c.place-lane.ensures.step) in
    to_z-of_z w64 c.wrap.result made ∙ c.wrap.ensures ∙ c.loop-step.invariant
    ∙ ap (sum_at c.place-lane.result.0) all
    ∙ ap (λ l. sum_at l (suc (step_of t n))) c.place-lane.ensures.lane
    ∙ ap (λ (k : ℕ). delta_value (form k) n) c.lane_width-lane_width.ensures.value
    ∙ ap (λ (f : DeltaForm). delta_value f n) c.self.view_is

pub returns-clause-fits : goal.returns-clause-fits
returns-clause-fits c =
    subst (λ (z : ℤ). FitsSigned (integer_width c.args.self.now.lane_width) z) (sym (returns-clause-value c)) (delta_value_fits c.args.self.now c.args.row)
