-- Two lanes side by side.
use Rattle.std.proofs.Common.{rules, ◌+◌, ◌*◌, ◌^◌, ◌<◌, slice_index, ap, ◌∙◌}
use Rattle.native_lanes.proofs.NativeLemmas.{bits_of_two_lanes}
use Rattle.native_lanes.proofs.native_32.word_of_lanes.Goals as goal

pub returns : goal.returns
returns c = λ p h.
    let marks = c.args.marks.now in
    let j = c.args.j in
    let low : slice_index marks j < 2 ^ 32 = search rules in
    bits_of_two_lanes marks j c.above.result p low (c.above.ensures ∙ ap (λ n. n * 2 ^ 32 + slice_index marks j) c.from.ensures) c.requires h
