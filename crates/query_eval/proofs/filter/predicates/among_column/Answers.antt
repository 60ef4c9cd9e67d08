-- By the codes, or by the decoded values.
use Rattle.std.proofs.Common.{Option, ℤ, ap}
use Rattle.table_model.specs.Answer.{whole}
use Rattle.table_model.specs.Condition.{is_among}
use Rattle.query_eval.specs.Vector.{cell_at, vector_at}
use Rattle.query_eval.proofs.PredicateLemmas.{pair_alike}
use Rattle.query_eval.proofs.filter.predicates.among_column.Goals as goal

pub returns-in-Some-clause-value : goal.returns-in-Some-clause-value
returns-in-Some-clause-value g c =
    let v = vector_at (g.C.Columns.seen c.args.columns.now).state c.args.id.batch c.args.id.vector in
    pair_alike c.args.mask.now _ (λ n. is_among (whole (cell_at v c.args.column n)) c.args.literals.now) c.among_codes.result
    (λ n h. ap (λ (o : Option ℤ). is_among (whole o) c.args.literals.now) (c.in-Some.ensures.codes.cell n h)) c.among_codes.ensures
