-- The columns that are left are fewer each time.
use Rattle.std.proofs.Common.{length}
use Rattle.table_model.proofs.schema.+are_distinct.Given as goal

abbrev pub decreases-are_distinct : goal.decreases-are_distinct
decreases-are_distinct l = length l.columns.now
