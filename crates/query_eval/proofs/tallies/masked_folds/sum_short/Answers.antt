-- One word more, and the lanes' sum at the end.
use Rattle.std.proofs.Common.{◌≡◌, ◌==◌, ◌+◌, ◌*◌, ◌^◌, ◌<◌, rules, ℕ, ℤ, Bool, List, false, get_or, length, pos, ◌+ℤ◌, w64, ap, sym, subst, ◌∙◌, arith}
use Rattle.std.specs.Int.{bit_at}
use Rattle.std.specs.Simd.Lanes.{sum_l}
use Rattle.std.proofs.lemmas.Nat.Bits.{bit_at-zero}
use Rattle.std.proofs.lemmas.Simd.{fold-sum, sum_fits}
use Rattle.table_model.specs.Values.{total}
use Rattle.transpose_order.specs.Mask.{has}
use Rattle.query_eval.specs.Slices.{IsRaised}
use Rattle.query_eval.proofs.GroupingLemmas.{word_bits}
use Rattle.query_eval.proofs.MaskedLemmas.{values_all, values_skip}
use Rattle.query_eval.proofs.tallies.masked_folds.sum_short.Goals.{then-words-index-ne0, else-words-index-ne0}
use Rattle.query_eval.proofs.tallies.masked_folds.sum_short.Goals as goal

pub loop-index-preserved : goal.loop-index-preserved
loop-index-preserved c =
    elim c.if-words-index-ne0.branch [
      | then-words-index-ne0 w ↦
          record {
            long = ap (λ (xs : List ℕ). length xs) w.sums-is ∙ w.add_short-sums.ensures.long;
            few = omega (arith, w.add_short-sums.ensures.sum, ap (λ (xs : List ℕ). sum_l xs) w.sums-is);
            value = moved w.add_short-sums.result w.sums-is (w.add_short-sums.ensures.value rows bits c.loop-index.invariant.value);
          }
      | else-words-index-ne0 w ↦
          record {
            long = ap (λ (xs : List ℕ). length xs) w.sums-is ∙ c.loop-index.invariant.long;
            few = omega (arith, c.loop-index.invariant.few, ap (λ (xs : List ℕ). sum_l xs) w.sums-is);
            value = moved c.loop-index.sums w.sums-is (skipped (search rules));
          }
    ]
  where
    j : ℕ
    j = c.loop-index.index

    rows : List Bool
    rows = c.args.rows.now

    values : List ℤ
    values = c.args.values.now

    words : List ℕ
    words = c.words-words.result.now

    bits : (b : ℕ) → b < 64 → (bit_at (get_or words j 0) b == 1) ≡ has rows (64 * j + b)
    bits b l = word_bits words rows j b c.loop-index-test.true l c.words-words.ensures

    moved : (sums : List ℕ) → c.if-words-index-ne0.sums ≡ sums → IsRaised (2 ^ 52) (64 * j + 64) rows values (sum_l sums) → IsRaised (2 ^ 52) (64 * (j + 1)) rows values (sum_l c.if-words-index-ne0.sums)
    moved sums e before =
        let next : 64 * j + 64 ≡ 64 * (j + 1) = omega arith in
        subst (λ (k : ℕ). IsRaised (2 ^ 52) k rows values (sum_l c.if-words-index-ne0.sums)) next (subst (λ (xs : List ℕ). IsRaised (2 ^ 52) (64 * j + 64) rows values (sum_l xs)) (sym e) before)

    skipped : get_or words j 0 ≡ 0 → IsRaised (2 ^ 52) (64 * j + 64) rows values (sum_l c.loop-index.sums)
    skipped zero_word =
        let none : (b : ℕ) → b < 64 → has rows (64 * j + b) ≡ false = (λ b l. sym (bits b l) ∙ ap (λ n. bit_at n b == 1) zero_word ∙ ap (λ n. n == 1) (bit_at-zero b)) in
        c.loop-index.invariant.value ∙ ap (λ zs. total zs +ℤ pos (2 ^ 52 * length zs)) (sym (values_skip (64 * j) 64 rows values none))

pub overflow_add-result : goal.overflow_add-result
overflow_add-result c =
    sum_fits w64 0 c.loop-index.sums (omega (arith, c.loop-index.invariant.few, c.loop-index.auto.index-end))

pub returns : goal.returns
returns c =
    let rows = c.args.rows.now in
    let values = c.args.values.now in
    let e : 64 * c.loop-index.index ≡ 1024 = omega (arith, c.loop-index-test.false, c.loop-index.auto.index-end) in
    let none : 0 + sum_l c.loop-index.sums ≡ sum_l c.loop-index.sums = omega arith in
    ap pos (fold-sum 0 c.loop-index.sums ∙ none) ∙ c.loop-index.invariant.value ∙ ap (λ zs. total zs +ℤ pos (2 ^ 52 * length zs)) (values_all (64 * c.loop-index.index) rows values e)
