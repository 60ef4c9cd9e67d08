-- By what the descent reads.
use Rattle.query_parser.proofs.Wholes.{unambiguous}
use Rattle.query_parser.proofs.laws.texts_are_unambiguous.Goals as goal

pub returns : goal.returns
returns c = unambiguous
