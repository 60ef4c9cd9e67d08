-- The rows of a run have its value.
use Rattle.std.proofs.Common.{rules, ◌≡◌, ℕ, ◌+◌, ◌-◌, ◌<◌, ◌≤◌, cond, List, ℤ, Bool, false, true, pos, ◌+ℤ◌, ◌*ℤ◌, slice_index_or, length, FitsSigned, to_z, of_z, sym, ap, ◌∙◌, subst, arith}
use Rattle.std.specs.Int.{w64, w128}
use Rattle.std.proofs.lemmas.Int.{to_z-of_z}
use Rattle.transpose_order.specs.Mask.{has, count_below}
use Rattle.transpose_order.proofs.MaskLemmas.{count_below-zero, count_below-le}
use Rattle.bit_interleave.specs.LaneValues.{LaneValues}
use Rattle.run_dictionary.specs.Runs.{run_value}
use Rattle.run_dictionary.proofs.CountLemmas.{count_below-rises}
use Rattle.native_lanes.specs.Folds.{fold_to}
use Rattle.native_lanes.proofs.FoldLemmas.{fold_to-zero}
use Rattle.fused_kernels.proofs.RunLemmas.{first_run, next_run, value_of_run, all_runs}
use Rattle.fused_kernels.proofs.RunFoldLemmas.{counted_in_words, sum_more}
use Rattle.native_lanes.proofs.TimesLemmas.{sum_fits}
use Rattle.segment_core.specs.declared.coded.Coded.TheVariants.{Runs}
use Rattle.fused_kernels.proofs.VectorLemmas.{value_in_fits}
use Rattle.fused_kernels.proofs.run_folds.sum_of_runs.Goals as goal

pub loop-run-init : goal.loop-run-init
loop-run-init c = record {
  begins = first_run c.args.form.now;
  before = sym (count_below-zero (has c.args.rows.now));
  sum = sym (fold_to-zero ◌+ℤ◌ (pos 0) (λ n. cond (has c.args.rows.now n) (run_value c.args.form.now n) (pos 0)));
}

pub overflow_sub-upto : goal.overflow_sub-upto
overflow_sub-upto c =
    omega (arith, c.loop-run.invariant.before, (c.rows_below-upto.ensures ∙ counted_in_words c.words-words.result.now c.args.rows.now c.next_true-end.result (sym c.words-words.ensures) c.next_true-end.ensures.within), count_below-rises (has c.args.rows.now) c.loop-run.row c.next_true-end.result (omega (arith, c.next_true-end.ensures.order)))

pub times-sum-requires : goal.times-sum-requires
times-sum-requires c =
    omega (arith, (c.rows_below-upto.ensures ∙ counted_in_words c.words-words.result.now c.args.rows.now c.next_true-end.result (sym c.words-words.ensures) c.next_true-end.ensures.within), count_below-le (has c.args.rows.now) c.next_true-end.result, c.next_true-end.ensures.within)

-- the sum with a run more
summed : (c : goal.After-times-sum) → to_z w128 c.loop-run.sum-bits +ℤ to_z w128 (of_z w128 c.times-sum.result) ≡ fold_to ◌+ℤ◌ (pos 0) c.next_true-end.result (λ n. cond (has c.args.rows.now n) (run_value c.args.form.now n) (pos 0))
summed c =
    let form = c.args.form.now in
    let b : ℕ → Bool = has c.args.rows.now in
    let row = c.loop-run.row in
    let end = c.next_true-end.result in
    let index = c.loop-run.run in
    let value : ℤ = c.get.result in
    let v : ℤ = slice_index_or form.values index (pos 0) in
    let is : value ≡ v = c.get.ensures.value ∙ ap (λ (x : LaneValues). slice_index_or x.values index (pos 0)) c.values-values.ensures.value in
    let left : index < length form.values = omega (arith, c.loop-run-test.true, c.len-run-end.ensures, ap (λ (x : LaneValues). length x.values) c.values-values.ensures.value) in
    let fits : FitsSigned w64 value = search rules in
    let wide : FitsSigned w128 c.times-sum.result = search rules in
    let none : (i : ℕ) → row + 1 ≤ i → i < end → has form.starts i ≡ false = subst (λ (m : List Bool). (i : ℕ) → row + 1 ≤ i → i < end → has m i ≡ false) c.starts.ensures.value c.next_true-end.ensures.none in
    let order : row ≤ end = omega (arith, c.next_true-end.ensures.order) in
    let f : ℕ → ℤ = λ n. cond (b n) (run_value form n) (pos 0) in
    ap (λ z. z +ℤ to_z w128 (of_z w128 c.times-sum.result)) c.loop-run.invariant.sum
    ∙ ap (λ z. fold_to ◌+ℤ◌ (pos 0) row f +ℤ z) (to_z-of_z w128 c.times-sum.result wide ∙ c.times-sum.ensures)
    ∙ ap (λ z. fold_to ◌+ℤ◌ (pos 0) row f +ℤ (z *ℤ pos (c.rows_below-upto.result - c.loop-run.before))) (to_z-of_z w64 value fits ∙ is)
    ∙ ap (λ (k : ℕ). fold_to ◌+ℤ◌ (pos 0) row f +ℤ (v *ℤ pos (k - c.loop-run.before))) (c.rows_below-upto.ensures ∙ counted_in_words c.words-words.result.now c.args.rows.now c.next_true-end.result (sym c.words-words.ensures) c.next_true-end.ensures.within)
    ∙ ap (λ (k : ℕ). fold_to ◌+ℤ◌ (pos 0) row f +ℤ (v *ℤ pos (count_below b end - k))) c.loop-run.invariant.before
    ∙ sum_more f b v row end order (λ n from below. ap (λ z. cond (b n) z (pos 0)) (value_of_run form row end index n c.loop-run.invariant.begins left none from below))

pub overflow_add-sum : goal.overflow_add-sum
overflow_add-sum c =
    let form = c.args.form.now in
    subst (λ z. FitsSigned w128 z) (sym (summed c))
    (sum_fits (run_value form) (has c.args.rows.now) c.next_true-end.result c.next_true-end.ensures.within (λ i l. value_in_fits (Runs form) i c.values-values.ensures.form (omega (arith, l, c.next_true-end.ensures.within))))

pub loop-run-preserved : goal.loop-run-preserved
loop-run-preserved c =
    let form = c.args.form.now in
    let row = c.loop-run.row in
    let end = c.next_true-end.result in
    let index = c.loop-run.run in
    let left : index < length form.values = omega (arith, c.loop-run-test.true, c.len-run-end.ensures, ap (λ (x : LaneValues). length x.values) c.values-values.ensures.value) in
    let none : (i : ℕ) → row + 1 ≤ i → i < end → has form.starts i ≡ false = subst (λ (m : List Bool). (i : ℕ) → row + 1 ≤ i → i < end → has m i ≡ false) c.starts.ensures.value c.next_true-end.ensures.none in
    let start : end < 1024 → has form.starts end ≡ true = subst (λ (m : List Bool). end < 1024 → has m end ≡ true) c.starts.ensures.value c.next_true-end.ensures.here in
    record {
      begins = next_run form row end index c.values-values.ensures.form c.loop-run.invariant.begins left c.next_true-end.ensures.order c.next_true-end.ensures.within none start;
      before = (c.rows_below-upto.ensures ∙ counted_in_words c.words-words.result.now c.args.rows.now c.next_true-end.result (sym c.words-words.ensures) c.next_true-end.ensures.within);
      sum = to_z-of_z w128 _ (overflow_add-sum c) ∙ summed c;
    }

pub returns : goal.returns
returns c =
    let form = c.args.form.now in
    let done : length form.values ≤ c.loop-run.run = omega (arith, c.loop-run-test.false, c.len-run-end.ensures, ap (λ (x : LaneValues). length x.values) c.values-values.ensures.value) in
    let all : c.loop-run.row ≡ 1024 = all_runs form c.loop-run.row c.loop-run.run c.values-values.ensures.form c.loop-run.invariant.begins done in
    c.loop-run.invariant.sum ∙ ap (λ (k : ℕ). fold_to ◌+ℤ◌ (pos 0) k (λ n. cond (has c.args.rows.now n) (run_value form n) (pos 0))) all
