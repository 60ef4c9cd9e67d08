-- Nulls by the null mask, the others by the decoding.
use Rattle.std.proofs.Common.{Option, ℤ, ap}
use Rattle.table_model.specs.Answer.{whole}
use Rattle.table_model.specs.Condition.{is_among}
use Rattle.query_eval.specs.Vector.{cell_at, vector_at}
use Rattle.query_eval.proofs.DecodedLemmas.{decoded_cell}
use Rattle.query_eval.proofs.PredicateLemmas.{pair_alike}
use Rattle.query_eval.proofs.filter.predicates.among_decoded.Goals as goal

pub returns-clause-value : goal.returns-clause-value
returns-clause-value g c =
    let v = vector_at (g.C.Columns.seen c.args.columns.now).state c.args.id.batch c.args.id.vector in
    pair_alike c.args.mask.now _ (λ n. is_among (whole (cell_at v c.args.column n)) c.args.literals.now) c.among_values.result
    (λ n h. ap (λ (o : Option ℤ). is_among (whole o) c.args.literals.now) (decoded_cell v c.args.column _ _ c.nulls-nulls.ensures c.decode_into.ensures.values n h)) c.among_values.ensures
