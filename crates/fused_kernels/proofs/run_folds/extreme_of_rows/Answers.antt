-- The rows of a run have its value.
use Rattle.std.proofs.Common.{rules, ◌≡◌, ◌≢◌, ℕ, ◌+◌, ◌<◌, ◌≤◌, cond, nat_lt, List, ℤ, Bool, false, true, pos, slice_index_or, length, Option, Some, None, FitsSigned, to_z, of_z, sym, ap, ◌∙◌, subst, arith}
use Rattle.std.specs.Int.{w64, int_max}
use Rattle.std.proofs.lemmas.Int.{to_z-of_z}
use Rattle.table_model.specs.Values.{greater}
use Rattle.transpose_order.specs.Mask.{has, count_below}
use Rattle.transpose_order.proofs.MaskLemmas.{count_below-zero}
use Rattle.bit_interleave.specs.LaneValues.{LaneValues}
use Rattle.run_dictionary.specs.Runs.{run_value}
use Rattle.native_lanes.specs.Folds.{fold_to}
use Rattle.native_lanes.proofs.FoldLemmas.{fold_to-zero}
use Rattle.table_model.specs.Extreme.{turned}
use Rattle.fused_kernels.proofs.ExtremeLemmas.{or_bottom, taken_by_greater, turned_fits, no_extreme, some_extreme}
use Rattle.fused_kernels.proofs.RunLemmas.{first_run, next_run, value_of_run, all_runs}
use Rattle.fused_kernels.proofs.RunFoldLemmas.{counted_in_words, greatest_more}
use Rattle.fused_kernels.proofs.run_folds.extreme_of_rows.Goals as goal

pub loop-run-init : goal.loop-run-init
loop-run-init c = record {
  begins = first_run c.args.form.now;
  before = sym (count_below-zero (has c.args.rows.now));
  greatest = sym (ap or_bottom (fold_to-zero greater None (λ n. cond (has c.args.rows.now n) (Some (turned c.args.side (run_value c.args.form.now n))) None)));
}

pub loop-run-preserved : goal.loop-run-preserved
loop-run-preserved c =
    let form = c.args.form.now in
    let b : ℕ → Bool = has c.args.rows.now in
    let side = c.args.side in
    let row = c.loop-run.row in
    let end = c.next_true-end.result in
    let index = c.loop-run.run in
    let value : ℤ = c.get.result in
    let own : ℤ = slice_index_or form.values index (pos 0) in
    let v : ℤ = turned side own in
    let is : value ≡ own = c.get.ensures.value ∙ ap (λ (x : LaneValues). slice_index_or x.values index (pos 0)) c.values-values.ensures.value in
    let left : index < length form.values = omega (arith, c.loop-run-test.true, c.len-run-end.ensures, ap (λ (x : LaneValues). length x.values) c.values-values.ensures.value) in
    let fits : FitsSigned w64 value = search rules in
    let turn : FitsSigned w64 c.turned-value.result = search rules in
    let passed : to_z w64 (of_z w64 c.turned-value.result) ≡ v = to_z-of_z w64 c.turned-value.result turn ∙ c.turned-value.ensures ∙ ap (turned side) (to_z-of_z w64 value fits ∙ is) in
    let none : (i : ℕ) → row + 1 ≤ i → i < end → has form.starts i ≡ false = subst (λ (m : List Bool). (i : ℕ) → row + 1 ≤ i → i < end → has m i ≡ false) c.starts.ensures.value c.next_true-end.ensures.none in
    let start : end < 1024 → has form.starts end ≡ true = subst (λ (m : List Bool). end < 1024 → has m end ≡ true) c.starts.ensures.value c.next_true-end.ensures.here in
    let order : row ≤ end = omega (arith, c.next_true-end.ensures.order) in
    let f : ℕ → Option ℤ = λ n. cond (b n) (Some (turned side (run_value form n))) None in
    let upto : c.rows_below-upto.result ≡ count_below b end = c.rows_below-upto.ensures ∙ counted_in_words c.words-words.result.now c.args.rows.now end (sym c.words-words.ensures) c.next_true-end.ensures.within in
    let old : Option ℤ = fold_to greater None row f in
    let taken : nat_lt c.loop-run.before c.rows_below-upto.result ≡ nat_lt (count_below b row) (count_below b end) = ap (λ (k : ℕ). nat_lt k c.rows_below-upto.result) c.loop-run.invariant.before ∙ ap (nat_lt (count_below b row)) upto in
    let so_far = to_z w64 c.loop-run.greatest-bits in
    let after : FitsSigned w64 c.greater_if-greatest.result = search rules in
    record {
      begins = next_run form row end index c.values-values.ensures.form c.loop-run.invariant.begins left c.next_true-end.ensures.order c.next_true-end.ensures.within none start;
      before = upto;
      greatest =
          to_z-of_z w64 c.greater_if-greatest.result after ∙ c.greater_if-greatest.ensures
          ∙ ap (λ t. cond t (int_max so_far (to_z w64 (of_z w64 c.turned-value.result))) so_far) taken
          ∙ ap (λ z. cond (nat_lt (count_below b row) (count_below b end)) (int_max so_far z) so_far) passed
          ∙ ap (λ x. cond (nat_lt (count_below b row) (count_below b end)) (int_max x v) x) c.loop-run.invariant.greatest
          ∙ taken_by_greater (nat_lt (count_below b row) (count_below b end)) old v (turned_fits side own (subst (λ z. FitsSigned w64 z) is fits))
          ∙ ap or_bottom (greatest_more f b v row end old (search rules) order (λ n from below. ap (λ z. cond (b n) (Some (turned side z)) None) (value_of_run form row end index n c.loop-run.invariant.begins left none from below)));
    }

pub returns-then-before-eq0 : goal.returns-then-before-eq0
returns-then-before-eq0 c =
    let form = c.args.form.now in
    let b : ℕ → Bool = has c.args.rows.now in
    let done : length form.values ≤ c.loop-run.run = omega (arith, c.loop-run-test.false, c.len-run-end.ensures, ap (λ (x : LaneValues). length x.values) c.values-values.ensures.value) in
    let all : c.loop-run.row ≡ 1024 = all_runs form c.loop-run.row c.loop-run.run c.values-values.ensures.form c.loop-run.invariant.begins done in
    let none : count_below b 1024 ≡ 0 = ap (count_below b) (sym all) ∙ sym c.loop-run.invariant.before ∙ c.if-before-eq0.true in
    no_extreme c.args.side b (run_value form) 1024 none

pub returns : goal.returns
returns c =
    let form = c.args.form.now in
    let b : ℕ → Bool = has c.args.rows.now in
    let done : length form.values ≤ c.loop-run.run = omega (arith, c.loop-run-test.false, c.len-run-end.ensures, ap (λ (x : LaneValues). length x.values) c.values-values.ensures.value) in
    let all : c.loop-run.row ≡ 1024 = all_runs form c.loop-run.row c.loop-run.run c.values-values.ensures.form c.loop-run.invariant.begins done in
    let count : c.loop-run.before ≡ count_below b 1024 = c.loop-run.invariant.before ∙ ap (count_below b) all in
    let some : count_below b 1024 ≢ 0 = (λ e. c.if-before-eq0.false (count ∙ e)) in
    let side = c.args.side in
    let result : FitsSigned w64 c.turned.result = search rules in
    ap Some (to_z-of_z w64 c.turned.result result ∙ c.turned.ensures ∙ ap (turned side) (c.loop-run.invariant.greatest ∙ ap (λ (k : ℕ). or_bottom (fold_to greater None k (λ n. cond (b n) (Some (turned side (run_value form n))) None))) all))
    ∙ some_extreme side b (run_value form) 1024 some
