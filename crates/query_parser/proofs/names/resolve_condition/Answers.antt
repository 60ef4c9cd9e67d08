-- By the least place.
use Rattle.query_parser.proofs.WhereNames.{condition_judged}
use Rattle.query_parser.proofs.names.resolve_condition.Goals as goal

pub returns-clause-judged : goal.returns-clause-judged
returns-clause-judged c = rw (c.verdict.ensures, c.in_where.ensures, c.column_list.ensures.list) (condition_judged c.args.schema.now c.args.condition.now)
