-- The rows before the word of the last row, and those of the word up to it.
use Rattle.std.proofs.Common.{◌≡◌, ℕ, ◌+◌, ◌-◌, ◌*◌, ◌/◌, ◌%◌, ◌^◌, ◌<◌, ◌≤◌, List, bit_and, count_ones, slice_index, slice_index_or, sym, ap, ◌∙◌, arith}
use Rattle.transpose_order.specs.Mask.{truth_at, count_below}
use Rattle.transpose_order.proofs.MaskLemmas.{count_below-part_of_word, count_below-le}
use Rattle.fused_kernels.proofs.row_counts.rows_below.Goals as goal

counted : (words before : List ℕ) (end : ℕ) → 0 < end → end ≤ 1024 → ((j : ℕ) → j < 16 → slice_index before j ≡ count_below (truth_at words) (64 * j))
    → slice_index before ((end - 1) / 64) + count_ones (bit_and (slice_index_or words ((end - 1) / 64) 0) ((2 ^ 64 - 1) / 2 ^ (63 - (end - 1) % 64))) ≡ count_below (truth_at words) end
counted words before end some within counts =
    let last = end - 1 in
    let j = last / 64 in
    let n = last % 64 + 1 in
    let whole : 64 * j + n ≡ end = omega arith in
    let shift : 63 - last % 64 ≡ 64 - n = omega arith in
    ap (λ x. x + count_ones (bit_and (slice_index_or words j 0) ((2 ^ 64 - 1) / 2 ^ (63 - last % 64)))) (counts j (omega arith))
    ∙ ap (λ k. count_below (truth_at words) (64 * j) + count_ones (bit_and (slice_index_or words j 0) ((2 ^ 64 - 1) / 2 ^ k))) shift
    ∙ sym (count_below-part_of_word words j n (omega arith)) ∙ ap (count_below (truth_at words)) whole

pub overflow_add-result : goal.overflow_add-result
overflow_add-result c =
    omega (arith, counted c.args.words.now c.args.before.now c.args.end c.requires.some c.requires.within c.requires.before, count_below-le (truth_at c.args.words.now) c.args.end)

pub returns : goal.returns
returns c = counted c.args.words.now c.args.before.now c.args.end c.requires.some c.requires.within c.requires.before
