-- The rows before the word of the last row, and those of the word up to it.
use Rattle.std.proofs.Common.{◌≡◌, ℕ, ◌+◌, ◌-◌, ◌*◌, ◌/◌, ◌%◌, ◌^◌, ◌<◌, ◌≤◌, Bool, List, bit_and, count_ones, slice_index, slice_index_or, sym, ap, ◌∙◌, arith}
use Rattle.transpose_order.specs.Mask.{count_below, has, rows_of, truth_at}
use Rattle.transpose_order.proofs.MaskLemmas.{count_below-le, count_below-part_of_word, count_below-zero}
use Rattle.query_eval.proofs.SpanTallyLemmas.{counted_by_words}
use Rattle.query_eval.proofs.tallies.row_counts.rows_below.Goals as goal

counted : (words before : List ℕ) (rows : List Bool) (end : ℕ) → rows ≡ rows_of (truth_at words) → 0 < end → end ≤ 1024 → ((j : ℕ) → j < 16 → slice_index before j ≡ count_below (has rows) (64 * j))
    → slice_index before ((end - 1) / 64) + count_ones (bit_and (slice_index_or words ((end - 1) / 64) 0) ((2 ^ 64 - 1) / 2 ^ (63 - (end - 1) % 64))) ≡ count_below (has rows) end
counted words before rows end e some within counts =
    let last = end - 1 in
    let j = last / 64 in
    let n = last % 64 + 1 in
    let whole : 64 * j + n ≡ end = omega arith in
    let shift : 63 - last % 64 ≡ 64 - n = omega arith in
    ap (λ x. x + count_ones (bit_and (slice_index_or words j 0) ((2 ^ 64 - 1) / 2 ^ (63 - last % 64)))) (counts j (omega arith) ∙ sym (counted_by_words words rows (64 * j) e (omega arith)))
    ∙ ap (λ k. count_below (truth_at words) (64 * j) + count_ones (bit_and (slice_index_or words j 0) ((2 ^ 64 - 1) / 2 ^ k))) shift
    ∙ sym (count_below-part_of_word words j n (omega arith)) ∙ ap (count_below (truth_at words)) whole ∙ counted_by_words words rows end e within

pub returns-then-end-eq0 : goal.returns-then-end-eq0
returns-then-end-eq0 c = sym (ap (count_below (has c.args.rows.now)) c.if-end-eq0.true ∙ count_below-zero (has c.args.rows.now))

pub overflow_add-result : goal.overflow_add-result
overflow_add-result c =
    omega (arith, counted c.words-words.result.now c.args.before.now c.args.rows.now c.args.end c.words-words.ensures (omega (arith, c.if-end-eq0.false)) c.requires.within c.requires.before, count_below-le (has c.args.rows.now) c.args.end)

pub returns : goal.returns
returns c = counted c.words-words.result.now c.args.before.now c.args.rows.now c.args.end c.words-words.ensures (omega (arith, c.if-end-eq0.false)) c.requires.within c.requires.before
