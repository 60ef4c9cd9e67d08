-- Where the frame is short, the values are the reference and the numbers, and else the walk's numbers are the raised values.
use Rattle.std.proofs.Common.{rules, FitsSigned, ◌≡◌, ℕ, ◌+◌, ◌*◌, ◌/◌, cond, length, pos, ◌+ℤ◌, ◌*ℤ◌, List, sym, ap, ◌∙◌}
use Rattle.std.specs.Int.{w128}
use Rattle.std.proofs.lemmas.Int.{to_z-of_z}
use Rattle.transpose_order.specs.Mask.{has, count_below}
use Rattle.transpose_order.specs.Place.{lane_of, step_of}
use Rattle.bit_interleave.specs.Packing.{packed_value}
use Rattle.bit_interleave.specs.PackedWords.{PackedWords}
use Rattle.frame_delta.specs.Frame.{FrameForm, frame_value}
use Rattle.native_lanes.specs.Folds.{fold_to}
use Rattle.native_lanes.proofs.PackedLemmas.{passed}
use Rattle.native_lanes.proofs.ShortLemmas.{sum_of_values}
use Rattle.native_lanes.proofs.short_frames.sum_of_frame_64.Goals as goal

lanes : (c : goal.After-words) → c.words.result.now.lane_width ≡ 64
lanes c = ap (λ (x : PackedWords). x.lane_width) c.words.ensures.value ∙ c.words.ensures.form.words ∙ c.requires

pub words_64-requires : goal.words_64-requires
words_64-requires c = lanes c

pub sum_of_numbers_64-numbers-requires-clause-words : goal.sum_of_numbers_64-numbers-requires-clause-words
sum_of_numbers_64-numbers-requires-clause-words c =
    ap (λ (xs : List ℕ). length xs) c.words_64.ensures ∙ c.words.ensures.width.count
    ∙ ap (λ (t : ℕ). c.args.form.now.width * (1024 / t)) (ap (λ (x : PackedWords). x.lane_width) c.words.ensures.value ∙ c.words.ensures.form.words ∙ c.requires)
    ∙ ap (λ (w : ℕ). w * 16) (sym c.width.ensures.value)

pub returns-then-is_short : goal.returns-then-is_short
returns-then-is_short c =
    let form : FrameForm = c.args.form.now in
    let rows = c.args.rows.now in
    let wide : FitsSigned w128 c.sum_above.result = search rules in
    let number : ℕ → ℕ = λ n. packed_value form.lane_width form.width form.words.numbers (lane_of form.lane_width n) (step_of form.lane_width n) in
    let sum_of : ℕ → ℕ → List ℕ → ℕ = λ t w words. fold_to ◌+◌ 0 1024 (λ n. cond (has rows n) (packed_value t w words (lane_of t n) (step_of t n)) 0) in
    let sum : c.sum_of_numbers_64-numbers.result ≡ sum_of form.lane_width form.width form.words.numbers =
    c.sum_of_numbers_64-numbers.ensures.sum ∙ ap (λ (w : ℕ). sum_of 64 w c.words_64.result.now) c.width.ensures.value
    ∙ ap (sum_of 64 form.width) (c.words_64.ensures ∙ ap (λ (x : PackedWords). x.numbers) c.words.ensures.value)
    ∙ ap (λ (t : ℕ). sum_of t form.width form.words.numbers) (sym c.requires) in
    let reference = passed c.reference.result form.reference (search rules) c.reference.ensures.value in
    to_z-of_z w128 c.sum_above.result wide ∙ c.sum_above.ensures
    ∙ ap (λ z. z *ℤ pos (count_below (has rows) 1024) +ℤ pos c.sum_of_numbers_64-numbers.result) reference
    ∙ ap (λ (n : ℕ). form.reference *ℤ pos (count_below (has rows) 1024) +ℤ pos n) sum
    ∙ sym (sum_of_values form.reference (has rows) number (frame_value form) 1024 (λ n _. c.is_short.ensures.plain c.if-is_short.true n))

pub returns : goal.returns
returns c =
    let wide : FitsSigned w128 c.sum_of_values.result = search rules in
    to_z-of_z w128 c.sum_of_values.result wide ∙ c.sum_of_values.ensures (frame_value c.args.form.now) c.walk_of_frame_64.ensures
