use Rattle.cluster_history.proofs.RowsKept.{rows_kept}
use Rattle.cluster_history.proofs.laws.row_laws.Goals as goal

pub returns : goal.returns
returns c = rows_kept
