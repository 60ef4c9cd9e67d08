-- A state has at each name what the inserts among its operations have there.
use Rattle.table_model.proofs.Operations.{operations}
use Rattle.table_model.proofs.laws.operation_laws.Goals as goal

pub returns : goal.returns
returns c = operations
