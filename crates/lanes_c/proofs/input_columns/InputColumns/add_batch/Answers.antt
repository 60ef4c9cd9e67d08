-- A row of a refusal is one of the batch.
use Rattle.segment_core.specs.Arrays.{array_rows}
use Rattle.lanes_c.proofs.InputLoads.{refusal_below}
use Rattle.lanes_c.proofs.input_columns.InputColumns.add_batch.Goals as goal

pub later-requires-clause-row : goal.later-requires-clause-row
later-requires-clause-row c = refusal_below c.args.load.now (array_rows c.min-count.result c.as_slice.result.now) c.in-Err.refusal c.in-Err.ensures.refused
