-- Down the list, a value at a time.
use Rattle.table_model.proofs.ValueFacts.{values}
use Rattle.table_model.proofs.laws.value_laws.Goals as goal

pub returns : goal.returns
returns c = values
