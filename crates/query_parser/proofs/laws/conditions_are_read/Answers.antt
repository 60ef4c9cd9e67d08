-- By what the descent reads.
use Rattle.query_parser.proofs.TextLaws.{conditions_read}
use Rattle.query_parser.proofs.laws.conditions_are_read.Goals as goal

pub returns : goal.returns
returns c = conditions_read
