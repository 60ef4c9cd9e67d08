-- The definitions compute, once the keys that occur are known.
use Rattle.table_model.proofs.WorkedQueries.{worked}
use Rattle.table_model.proofs.laws.worked_answers.Goals as goal

pub returns : goal.returns
returns c = worked
