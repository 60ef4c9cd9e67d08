-- By the least places.
use Rattle.query_parser.proofs.LeastPlaces.{judged}
use Rattle.query_parser.proofs.names.resolve.Goals as goal

pub returns-clause-judged : goal.returns-clause-judged
returns-clause-judged c = rw c.judge.ensures (judged c.args.schema.now c.args.query.now)
