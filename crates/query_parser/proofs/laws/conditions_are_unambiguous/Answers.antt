-- By what the descent reads.
use Rattle.query_parser.proofs.WholeConditions.{one_condition}
use Rattle.query_parser.proofs.laws.conditions_are_unambiguous.Goals as goal

pub returns : goal.returns
returns c = one_condition
