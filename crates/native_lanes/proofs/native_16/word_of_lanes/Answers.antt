-- Four lanes side by side.
use Rattle.std.proofs.Common.{rules, ◌+◌, ◌*◌, ◌^◌, ◌<◌, slice_index, ap, ◌∙◌}
use Rattle.native_lanes.proofs.NativeLemmas.{bits_of_four_lanes}
use Rattle.native_lanes.proofs.native_16.word_of_lanes.Goals as goal

pub returns : goal.returns
returns c = λ p h.
    let marks = c.args.marks.now in
    let j = c.args.j in
    let two : slice_index marks (16 + j) < 2 ^ 16 = search rules in
    let one : slice_index marks (32 + j) < 2 ^ 16 = search rules in
    let low : slice_index marks j < 2 ^ 16 = search rules in
    bits_of_four_lanes marks j c.above-last.result c.above.result c.above-2.result p two one low
    (c.above-last.ensures ∙ ap (λ n. n * 2 ^ 16 + slice_index marks (16 + j)) c.from.ensures) c.above.ensures c.above-2.ensures c.requires h
