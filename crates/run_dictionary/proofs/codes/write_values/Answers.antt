-- Each row's code is looked up.
use Rattle.std.proofs.Common.{pos, arith}
use Rattle.transpose_order.specs.MaskWords.{rows_of-same}
use Rattle.run_dictionary.proofs.codes.write_values.Goals as goal

pub returns : goal.returns
returns c = rows_of-same _ c.loop-row.into (pos 0) c.loop-row.invariant.0 (λ n h. c.loop-row.invariant.1 n (omega arith))
