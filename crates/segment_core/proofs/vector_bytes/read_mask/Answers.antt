use Rattle.transpose_order.specs.MaskWords.{length-rows_of}
use Rattle.transpose_order.specs.MaskBytes.{rows_of_bytes}
use Rattle.segment_core.proofs.vector_bytes.read_mask.Goals as goal

pub returns-clause-rows : goal.returns-clause-rows
unfolding rows_of_bytes
returns-clause-rows c = rw c.from_le_bytes.ensures.value (length-rows_of _)
