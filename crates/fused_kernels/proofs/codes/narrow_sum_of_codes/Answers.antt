-- One more step is added, and the steps over their lanes are the rows.
use Rattle.std.proofs.Common.{◌≡◌, ◌==◌, ℕ, ◌+◌, ◌*◌, ◌^◌, ◌<◌, Bool, cond, ℤ, pos, ◌+ℤ◌, ◌-ℤ◌, ◌≤ℤ◌, List, length, slice_index, to_z, sym, ap, ◌∙◌, subst, arith}
use Rattle.std.specs.Int.{bit_at, w64}
use Rattle.std.proofs.lemmas.Int.{ints}
use Rattle.transpose_order.specs.Mask.{has}
use Rattle.transpose_order.specs.Place.{row_at}
use Rattle.bit_interleave.specs.LaneValues.{LaneValues}
use Rattle.bit_interleave.specs.PackedWords.{PackedWords}
use Rattle.bit_interleave.specs.Range.{AreInRange, value_at}
use Rattle.run_dictionary.specs.Dict.{DictForm, code_at, dict_value}
use Rattle.native_lanes.specs.Folds.{fold_to}
use Rattle.native_lanes.proofs.FoldLemmas.{fold_to-zero, fold_to-more, fold_to-same}
use Rattle.fused_kernels.proofs.CodeSumLemmas.{number_is_code, number_below, steps_are_rows, sum_kept}
use Rattle.fused_kernels.proofs.codes.narrow_sum_of_codes.Goals as goal

abbrev term_of : DictForm → List Bool → ℕ → ℤ
term_of form rows n = cond (has rows n) (dict_value form n) (pos 0)

pub loop-step-init : goal.loop-step-init
loop-step-init c = record {
  sum = sym (fold_to-zero ◌+ℤ◌ (pos 0) (λ s. fold_to ◌+ℤ◌ (pos 0) 64 (λ lane. term_of c.args.form.now c.args.rows.now (row_at 16 lane s))));
  least = omega (arith, ints);
  most = omega (arith, ints);
}

pub narrow_sum_of_step-sum-requires-clause-codes : goal.narrow_sum_of_step-sum-requires-clause-codes
narrow_sum_of_step-sum-requires-clause-codes c = λ lane h.
    let form : DictForm = c.args.form.now in
    let code = number_is_code form c.width-width.result c.words_16-words.result.now (slice_index c.numbers_16-codes.result lane) lane c.loop-step.step h c.loop-step-test.true (c.numbers_16-codes.ensures lane h) c.width-width.ensures.value (c.words_16-words.ensures ∙ ap (λ (x : PackedWords). x.numbers) c.codes.ensures.words) in
    subst (λ (xs : List ℤ). slice_index c.numbers_16-codes.result lane < length xs) (sym (c.in_room-values.ensures.values ∙ ap (λ (x : LaneValues). x.values) c.values.ensures.value)) (number_below form (slice_index c.numbers_16-codes.result lane) lane c.loop-step.step c.codes.ensures.form h c.loop-step-test.true code)

pub narrow_sum_of_step-sum-requires-clause-narrow : goal.narrow_sum_of_step-sum-requires-clause-narrow
narrow_sum_of_step-sum-requires-clause-narrow c = subst (λ (xs : List ℤ). AreInRange 32 xs) (sym (c.in_room-values.ensures.values ∙ ap (λ (x : LaneValues). x.values) c.values.ensures.value)) c.requires

pub loop-step-preserved : goal.loop-step-preserved
loop-step-preserved c =
    let form : DictForm = c.args.form.now in
    let rows = c.args.rows.now in
    let step = c.loop-step.step in
    let values = c.in_room-values.result.now in
    let lanes = c.lanes_of_mask_16-lanes.result in
    let codes = c.numbers_16-codes.result in
    let one : c.narrow_sum_of_step-sum.result ≡ fold_to ◌+ℤ◌ (pos 0) 64 (λ lane. term_of form rows (row_at 16 lane step)) =
    c.narrow_sum_of_step-sum.ensures.sum
    ∙ fold_to-same ◌+ℤ◌ (pos 0) 64 (λ lane. cond (bit_at (slice_index lanes lane) step == 1) (value_at values (slice_index codes lane)) (pos 0)) (λ lane. term_of form rows (row_at 16 lane step))
    (λ lane h.
    ap (λ (b : Bool). cond b (value_at values (slice_index codes lane)) (pos 0)) (c.lanes_of_mask_16-lanes.ensures lane step h c.loop-step-test.true)
    ∙ ap (λ (k : ℕ). cond (has rows (row_at 16 lane step)) (value_at values k) (pos 0)) (number_is_code form c.width-width.result c.words_16-words.result.now (slice_index codes lane) lane step h c.loop-step-test.true (c.numbers_16-codes.ensures lane h) c.width-width.ensures.value (c.words_16-words.ensures ∙ ap (λ (x : PackedWords). x.numbers) c.codes.ensures.words))
    ∙ ap (λ (xs : List ℤ). cond (has rows (row_at 16 lane step)) (value_at xs (code_at form (row_at 16 lane step))) (pos 0)) (c.in_room-values.ensures.values ∙ ap (λ (x : LaneValues). x.values) c.values.ensures.value)) in
    let steps : ℕ → ℤ = λ s. fold_to ◌+ℤ◌ (pos 0) 64 (λ lane. term_of form rows (row_at 16 lane s)) in
    let sum = c.narrow_sum_of_step-sum in
    let before : ℤ = to_z w64 c.loop-step.sum-bits in
    let least : (pos 0 -ℤ pos (2 ^ 31 * (64 * (step + 1)))) ≤ℤ (before +ℤ sum.result) = omega (arith, ints, c.loop-step.invariant.least, sum.ensures.least) in
    let most : (before +ℤ sum.result) ≤ℤ pos (2 ^ 31 * (64 * (step + 1))) = omega (arith, ints, c.loop-step.invariant.most, sum.ensures.most) in
    let kept = sum_kept before sum.result (omega (arith, ints, sum.ensures.least, sum.ensures.most)) (omega (arith, ints, least, most, c.loop-step-test.true)) in
    record {
      sum = kept ∙ ap (λ z. z +ℤ sum.result) c.loop-step.invariant.sum ∙ ap (λ z. fold_to ◌+ℤ◌ (pos 0) step steps +ℤ z) one ∙ sym (fold_to-more ◌+ℤ◌ (pos 0) step steps);
      least = subst (λ (z : ℤ). (pos 0 -ℤ pos (2 ^ 31 * (64 * (step + 1)))) ≤ℤ z) (sym kept) least;
      most = subst (λ (z : ℤ). z ≤ℤ pos (2 ^ 31 * (64 * (step + 1)))) (sym kept) most;
    }

pub returns : goal.returns
returns c =
    let all : c.loop-step.step ≡ 16 = omega arith in
    let steps : ℕ → ℤ = λ s. fold_to ◌+ℤ◌ (pos 0) 64 (λ lane. term_of c.args.form.now c.args.rows.now (row_at 16 lane s)) in
    c.loop-step.invariant.sum ∙ ap (λ (k : ℕ). fold_to ◌+ℤ◌ (pos 0) k steps) all ∙ steps_are_rows (term_of c.args.form.now c.args.rows.now)
