-- By the rows whose value is among the literals.
use Rattle.query_eval.proofs.filter.rows.among_values.Goals as goal

pub returns-in-Some : goal.returns-in-Some
returns-in-Some c = c.among_found.ensures c.args.values.now c.in-Some.ensures.rows
