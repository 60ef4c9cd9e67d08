-- Each by its table.
use Rattle.table_model.proofs.TruthTables.{truths}
use Rattle.table_model.proofs.laws.truth_laws.Goals as goal

pub returns : goal.returns
returns c = truths
