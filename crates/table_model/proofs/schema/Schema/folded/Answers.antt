-- The names and columns are those of a proper schema, folded.
use Rattle.table_model.proofs.OwnTable.{IsTable-folded}
use Rattle.table_model.proofs.schema.Schema.folded.Goals as goal

pub invariant_of-result : goal.invariant_of-result
invariant_of-result c = rw (c.in_ok-table.ensures, c.in_ok-columns.ensures) (IsTable-folded _ _ c.requires)
