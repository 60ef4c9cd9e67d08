-- A word has as many rows as it has ones.
use Rattle.std.proofs.Common.{◌≡◌, ◌*◌, ◌^◌, ◌<◌, length, set, get_or, slice_index_or, sym, ◌∙◌, below_more, arith, rules}
use Rattle.std.proofs.lemmas.List.{get_or-set_same, get_or-set_other, length-set}
use Rattle.std.proofs.lemmas.Nat.{ones-le}
use Rattle.transpose_order.specs.Mask.{truth_at, count_below}
use Rattle.transpose_order.proofs.MaskLemmas.{count_below-zero, count_below-whole_word}
use Rattle.query_eval.proofs.SpanTallyLemmas.{counted_by_words}
use Rattle.query_eval.proofs.tallies.row_counts.rows_before_words.Goals as goal

pub loop-j-init : goal.loop-j-init
loop-j-init c = record {
  long = omega arith;
  count = sym (count_below-zero (truth_at c.words-words.result.now));
  few = omega arith;
  before = λ k h. absurd (omega arith);
}

pub loop-j-preserved : goal.loop-j-preserved
loop-j-preserved c =
    let j = c.loop-j.j in
    let words = c.words-words.result.now in
    let old = c.loop-j.before in
    let count = c.loop-j.count in
    let inside : j < length old = omega (arith, c.loop-j.invariant.long, c.loop-j-test.true) in
    let fits : slice_index_or words j 0 < 2 ^ 64 = search rules in
    let next = count_below-whole_word words j fits in
    record {
      long = length-set old j count ∙ c.loop-j.invariant.long;
      count = omega (arith, next, c.loop-j.invariant.count);
      few = omega (arith, c.loop-j.invariant.few, ones-le 64 (slice_index_or words j 0) fits);
      before = below_more (λ k. get_or (set old j count) k 0 ≡ count_below (truth_at words) (64 * k)) j
          (λ k below. get_or-set_other old j k count 0 (λ e. omega (arith, e)) ∙ c.loop-j.invariant.before k below)
          (get_or-set_same old j count 0 inside ∙ c.loop-j.invariant.count);
    }

pub returns : goal.returns
returns c = λ j l. c.loop-j.invariant.before j (omega (arith, l, c.loop-j-test.false)) ∙ counted_by_words c.words-words.result.now c.args.rows.now (64 * j) c.words-words.ensures (omega (arith, l))
