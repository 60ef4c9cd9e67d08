-- By definition, and down the list of an IN.
use Rattle.table_model.proofs.Predicates.{predicates}
use Rattle.table_model.proofs.laws.predicate_laws.Goals as goal

pub returns : goal.returns
returns c = predicates
