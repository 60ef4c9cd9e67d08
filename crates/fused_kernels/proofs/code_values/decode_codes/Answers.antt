-- A step writes the rows that stand at it.
use Rattle.std.proofs.Common.{◌≡◌, ℕ, ◌%◌, ◌<◌, ℤ, pos, List, length, slice_index, inl, inr, refl, sym, ap, ◌∙◌, arith, below_more}
use Rattle.transpose_order.specs.Place.{lane_of}
use Rattle.transpose_order.specs.MaskWords.{rows_of-same}
use Rattle.transpose_order.proofs.PlaceLemmas.{row_at-lane_of}
use Rattle.bit_interleave.specs.Packing.{packed_value}
use Rattle.bit_interleave.specs.LaneValues.{LaneValues}
use Rattle.bit_interleave.specs.PackedWords.{PackedWords}
use Rattle.bit_interleave.specs.Range.{value_at}
use Rattle.run_dictionary.specs.Dict.{DictForm, IsDictForm, code_at, dict_value, dict_values}
use Rattle.run_dictionary.proofs.DictLemmas.{code_at-row_at}
use Rattle.transpose_order.proofs.PlaceLemmas.{lane_of-row_at}
use Rattle.transpose_order.specs.Place.{row_at}
use Rattle.fused_kernels.proofs.CodeLemmas.{code_of_lane}
use Rattle.fused_kernels.proofs.code_values.decode_codes.Goals as goal

pub loop-step-init : goal.loop-step-init
loop-step-init c = record { long = c.told-rows; written = λ n h l. absurd (omega arith) }

pub put_step-requires-clause-codes : goal.put_step-requires-clause-codes
put_step-requires-clause-codes c = λ lane h.
    let form : DictForm = c.args.form.now in
    let is : IsDictForm form = c.codes.ensures.form in
    let step = c.loop-step.step in
    let code : slice_index c.numbers_16-codes.result lane ≡ code_at form (row_at 16 lane step) =
    c.numbers_16-codes.ensures lane h
    ∙ ap (λ (w : ℕ). packed_value 16 w c.words_16-words.result.now lane step) c.width-width.ensures.value
    ∙ ap (λ (xs : List ℕ). packed_value 16 form.width xs lane step) (c.words_16-words.ensures ∙ ap (λ (x : PackedWords). x.numbers) c.codes.ensures.words)
    ∙ sym (code_at-row_at form lane step h c.loop-step-test.true) in
    let inside = (lane_of-row_at 16 lane step (inr (inl refl)) h c.loop-step-test.true).0 in
    let below = is.codes (row_at 16 lane step) inside in
    let many : length c.in_room-values.result.now ≡ length form.values = ap (λ (xs : List ℤ). length xs) (c.in_room-values.ensures.values ∙ ap (λ (x : LaneValues). x.values) c.values.ensures.value) in
    omega (arith, code, below, many)

pub loop-step-preserved : goal.loop-step-preserved
loop-step-preserved c =
    let form : DictForm = c.args.form.now in
    let step = c.loop-step.step in
    let codes = c.numbers_16-codes.result in
    let values = c.in_room-values.result.now in
    let code : (n : ℕ) → n < 1024 → n % 16 ≡ step → slice_index codes (lane_of 16 n) ≡ code_at form n =
    (λ n h e.
    c.numbers_16-codes.ensures (lane_of 16 n) (row_at-lane_of 16 n (inr (inl refl)) h).0
    ∙ ap (λ (w : ℕ). packed_value 16 w c.words_16-words.result.now (lane_of 16 n) step) c.width-width.ensures.value
    ∙ ap (λ (xs : List ℕ). packed_value 16 form.width xs (lane_of 16 n) step) (c.words_16-words.ensures ∙ ap (λ (x : PackedWords). x.numbers) c.codes.ensures.words)
    ∙ ap (packed_value 16 form.width form.codes.numbers (lane_of 16 n)) (sym e)
    ∙ code_of_lane form n) in
    record {
      long = c.put_step.array_long;
      written = λ n h l.
          below_more (λ k. n % 16 ≡ k → value_at c.put_step.new.rows n ≡ dict_value form n) step
          (λ k before e. c.put_step.ensures.others n (λ (same : n % 16 ≡ step). omega (arith, before, e, same)) ∙ c.loop-step.invariant.written n h (omega (arith, before, e)))
          (λ e. c.put_step.ensures.written n h e ∙ ap (λ (k : ℕ). value_at values k) (code n h e) ∙ ap (λ (xs : List ℤ). value_at xs (code_at form n)) (c.in_room-values.ensures.values ∙ ap (λ (x : LaneValues). x.values) c.values.ensures.value))
          (n % 16) l refl;
    }

pub returns : goal.returns
unfolding dict_values
returns c = rows_of-same (dict_value c.args.form.now) c.loop-step.rows (pos 0) c.loop-step.invariant.long (λ n h. c.loop-step.invariant.written n h (omega arith))
