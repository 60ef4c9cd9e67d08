-- The loop has filled every row.
use Rattle.std.proofs.Common.{arith, ap, ◌∙◌}
use Rattle.std.specs.Int.{w64, int_gap}
use Rattle.std.proofs.lemmas.Int.{to_z-of_z}
use Rattle.transpose_order.specs.MaskWords.{rows_of-same}
use Rattle.bit_interleave.specs.Range.{value_at}
use Rattle.frame_delta.specs.Frame.{gaps_above}
use Rattle.frame_delta.proofs.extremes.gaps_above.Goals as goal

pub returns : goal.returns
unfolding gaps_above
returns c =
    rows_of-same (λ n. int_gap c.args.reference (value_at c.args.values.now n)) c.loop-n.gaps 0 c.loop-n.invariant.long
    (λ n h. c.loop-n.invariant.done n (omega arith) ∙ ap (λ r. int_gap r (value_at c.args.values.now n)) (to_z-of_z w64 c.args.reference c.ranges.reference))
