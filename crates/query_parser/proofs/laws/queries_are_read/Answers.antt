-- By what the descent reads.
use Rattle.query_parser.proofs.TextLaws.{queries_read}
use Rattle.query_parser.proofs.laws.queries_are_read.Goals as goal

pub returns : goal.returns
returns c = queries_read
