use Rattle.std.proofs.Common.{sym, ◌∙◌}
use Rattle.segment_core.proofs.MaskCounts.{tested_is_null_mask}
use Rattle.segment_core.proofs.vector_bytes.read_null_mask.Goals as goal

pub returns-clause-nulls : goal.returns-clause-nulls
returns-clause-nulls c = tested_is_null_mask c.args.rows c.in_ok-nulls.nulls c.in_ok-nulls.ensures.rows (sym c.has_rows_within.ensures ∙ c.if-not-has_rows_within.false)
