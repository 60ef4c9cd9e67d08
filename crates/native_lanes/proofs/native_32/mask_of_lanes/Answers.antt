-- A row's bit is that of its lane and step.
use Rattle.std.proofs.Common.{◌≡◌, ◌==◌, ◌+◌, ◌*◌, ◌%◌, slice_index, ap, ◌∙◌, arith}
use Rattle.std.specs.Int.{bit_at}
use Rattle.transpose_order.specs.Place.{lane_of, step_of}
use Rattle.transpose_order.proofs.MaskLemmas.{rows_of-words}
use Rattle.native_lanes.proofs.native_32.mask_of_lanes.Goals as goal

pub returns : goal.returns
returns c =
    let marks = c.args.marks.now in
    c.from_words.ensures
    ∙ rows_of-words c.loop-j.words (λ n. bit_at (slice_index marks (lane_of 32 n)) (step_of 32 n) == 1)
    (λ j p h k.
    let step : p % 32 ≡ step_of 32 (64 * j + p) = omega arith in
    ap (λ b. b == 1) (c.loop-j.invariant.done j p (omega arith) k) ∙ ap (λ r. bit_at (slice_index marks (lane_of 32 (64 * j + p))) r == 1) step)
