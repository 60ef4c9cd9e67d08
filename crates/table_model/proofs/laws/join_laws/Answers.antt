-- The laws of a join are those of choosing the first of two options, and of or.
use Rattle.table_model.proofs.Joins.{joins}
use Rattle.table_model.proofs.laws.join_laws.Goals as goal

pub returns : goal.returns
returns c = joins
