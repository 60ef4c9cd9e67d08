-- A word counts as many rows as it has ones.
use Rattle.std.proofs.Common.{take, count_ones}
use Rattle.std.proofs.lemmas.List.{length-take}
use Rattle.std.proofs.lemmas.Nat.{ones-le}
use Rattle.std.proofs.lemmas.Grind.{common_steps}
use Rattle.transpose_order.proofs.MaskLemmas.{count_below-zero, count_below-whole_word, count_below-part_of_word}
use Rattle.std.proofs.Common.{◌≡◌, ℕ, ◌/◌, ◌^◌, ◌<◌, ◌+◌, ◌-◌, ◌*◌, ◌%◌, slice_index_or, bit_and, sym, ap, ◌∙◌, arith}
use Rattle.transpose_order.specs.Mask.{truth_at, count_below}
use Rattle.transpose_order.proofs.words.count_rows.Goals as goal

pub loop-word-init : goal.loop-word-init
loop-word-init c = (sym (count_below-zero (truth_at c.args.words.now)), omega arith)

pub loop-word-preserved : goal.loop-word-preserved
loop-word-preserved c =
    let j = c.loop-word.word-index in
    let words = c.args.words.now in
    let word = slice_index_or (take (c.args.end / 64) words) j 0 in
    let same : word ≡ slice_index_or words j 0 = grind (arith, common_steps) in
    let fits : word < 2 ^ 64 = omega arith in
    let next = count_below-whole_word words j (omega arith) in
    (omega (arith, next, ap count_ones same), omega (arith, ones-le 64 word fits))

pub returns-then-end-eq0 : goal.returns-then-end-eq0
returns-then-end-eq0 c =
    let done : c.loop-word.word-index ≡ c.args.end / 64 = omega (arith, length-take {A = ℕ}) in
    c.loop-word.invariant.0 ∙ ap (count_below (truth_at c.args.words.now)) (let e : 64 * c.loop-word.word-index ≡ c.args.end = omega arith in e)

pub returns : goal.returns
returns c =
    let j = c.args.end / 64 in
    let words = c.args.words.now in
    let done : c.loop-word.word-index ≡ j = omega (arith, length-take {A = ℕ}) in
    let front : c.loop-word.count ≡ count_below (truth_at words) (64 * j) = c.loop-word.invariant.0 ∙ ap (λ k. count_below (truth_at words) (64 * k)) done in
    let whole : 64 * j + c.args.end % 64 ≡ c.args.end = omega arith in
    ap (λ x. x + count_ones (bit_and (slice_index_or words j 0) ((2 ^ 64 - 1) / 2 ^ (64 - c.args.end % 64)))) front
    ∙ sym (count_below-part_of_word words j (c.args.end % 64) (omega arith)) ∙ ap (count_below (truth_at words)) whole
