-- One more step is added, and the steps over their lanes are the rows.
use Rattle.std.proofs.Common.{◌≡◌, ◌==◌, ℕ, ◌^◌, ◌<◌, Bool, cond, ℤ, pos, ◌+ℤ◌, List, length, slice_index, sym, ap, subst, ◌∙◌, arith}
use Rattle.std.specs.Int.{bit_at}
use Rattle.transpose_order.specs.Mask.{has}
use Rattle.transpose_order.specs.Place.{row_at}
use Rattle.bit_interleave.specs.LaneValues.{LaneValues}
use Rattle.bit_interleave.specs.PackedWords.{PackedWords}
use Rattle.bit_interleave.specs.Range.{value_at}
use Rattle.run_dictionary.specs.Dict.{DictForm, code_at, dict_value}
use Rattle.native_lanes.specs.Folds.{fold_to}
use Rattle.native_lanes.proofs.FoldLemmas.{fold_to-zero, fold_to-more, fold_to-same}
use Rattle.fused_kernels.proofs.CodeSumLemmas.{number_is_code, number_below, steps_are_rows}
use Rattle.fused_kernels.proofs.codes.raised_sum_of_codes.Goals as goal

abbrev term_of : DictForm → List Bool → ℕ → ℤ
term_of form rows n = cond (has rows n) (dict_value form n +ℤ pos (2 ^ 63)) (pos 0)

pub loop-step-init : goal.loop-step-init
loop-step-init c =
    record {
      sum = sym (fold_to-zero ◌+ℤ◌ (pos 0) (λ s. fold_to ◌+ℤ◌ (pos 0) 64 (λ lane. term_of c.args.form.now c.args.rows.now (row_at 16 lane s))));
      bound = omega arith;
    }

pub sum_of_step-sum-requires-clause-codes : goal.sum_of_step-sum-requires-clause-codes
sum_of_step-sum-requires-clause-codes c = λ lane h.
    let form : DictForm = c.args.form.now in
    let code = number_is_code form c.width-width.result c.words_16-words.result.now (slice_index c.numbers_16-codes.result lane) lane c.loop-step.step h c.loop-step-test.true (c.numbers_16-codes.ensures lane h) c.width-width.ensures.value (c.words_16-words.ensures ∙ ap (λ (x : PackedWords). x.numbers) c.codes.ensures.words) in
    subst (λ (xs : List ℤ). slice_index c.numbers_16-codes.result lane < length xs) (sym (c.in_room-values.ensures.values ∙ ap (λ (x : LaneValues). x.values) c.values.ensures.value)) (number_below form (slice_index c.numbers_16-codes.result lane) lane c.loop-step.step c.codes.ensures.form h c.loop-step-test.true code)

pub loop-step-preserved : goal.loop-step-preserved
loop-step-preserved c =
    let form : DictForm = c.args.form.now in
    let rows = c.args.rows.now in
    let step = c.loop-step.step in
    let values = c.in_room-values.result.now in
    let lanes = c.lanes_of_mask_16-lanes.result in
    let codes = c.numbers_16-codes.result in
    let one : pos c.sum_of_step-sum.result ≡ fold_to ◌+ℤ◌ (pos 0) 64 (λ lane. term_of form rows (row_at 16 lane step)) =
    c.sum_of_step-sum.ensures.sum
    ∙ fold_to-same ◌+ℤ◌ (pos 0) 64 (λ lane. cond (bit_at (slice_index lanes lane) step == 1) (value_at values (slice_index codes lane) +ℤ pos (2 ^ 63)) (pos 0)) (λ lane. term_of form rows (row_at 16 lane step))
    (λ lane h.
    ap (λ (b : Bool). cond b (value_at values (slice_index codes lane) +ℤ pos (2 ^ 63)) (pos 0)) (c.lanes_of_mask_16-lanes.ensures lane step h c.loop-step-test.true)
    ∙ ap (λ (k : ℕ). cond (has rows (row_at 16 lane step)) (value_at values k +ℤ pos (2 ^ 63)) (pos 0)) (number_is_code form c.width-width.result c.words_16-words.result.now (slice_index codes lane) lane step h c.loop-step-test.true (c.numbers_16-codes.ensures lane h) c.width-width.ensures.value (c.words_16-words.ensures ∙ ap (λ (x : PackedWords). x.numbers) c.codes.ensures.words))
    ∙ ap (λ (xs : List ℤ). cond (has rows (row_at 16 lane step)) (value_at xs (code_at form (row_at 16 lane step)) +ℤ pos (2 ^ 63)) (pos 0)) (c.in_room-values.ensures.values ∙ ap (λ (x : LaneValues). x.values) c.values.ensures.value)) in
    let steps : ℕ → ℤ = λ s. fold_to ◌+ℤ◌ (pos 0) 64 (λ lane. term_of form rows (row_at 16 lane s)) in
    record {
      sum = ap (λ z. z +ℤ pos c.sum_of_step-sum.result) c.loop-step.invariant.sum ∙ ap (λ z. fold_to ◌+ℤ◌ (pos 0) step steps +ℤ z) one ∙ sym (fold_to-more ◌+ℤ◌ (pos 0) step steps);
      bound = omega (arith, c.loop-step.invariant.bound, c.sum_of_step-sum.ensures.bound);
    }

pub returns-clause-sum : goal.returns-clause-sum
returns-clause-sum c =
    let all : c.loop-step.step ≡ 16 = omega arith in
    let steps : ℕ → ℤ = λ s. fold_to ◌+ℤ◌ (pos 0) 64 (λ lane. term_of c.args.form.now c.args.rows.now (row_at 16 lane s)) in
    c.loop-step.invariant.sum ∙ ap (λ (k : ℕ). fold_to ◌+ℤ◌ (pos 0) k steps) all ∙ steps_are_rows (term_of c.args.form.now c.args.rows.now)
