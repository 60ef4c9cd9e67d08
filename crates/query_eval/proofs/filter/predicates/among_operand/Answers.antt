-- The side stands for the operand.
use Rattle.std.proofs.Common.{List, ℤ, subst}
use Rattle.table_model.specs.Condition.{is_among}
use Rattle.query_eval.specs.Vector.{vector_at}
use Rattle.query_eval.specs.Where.{IsPair, operand_at}
use Rattle.query_eval.proofs.PredicateLemmas.{operand_among}
use Rattle.query_eval.proofs.filter.predicates.among_operand.Goals as goal

pub returns-clause-value : goal.returns-clause-value
returns-clause-value g c =
    let table = (g.C.Columns.seen c.args.columns.now).table in
    let s = (g.C.Columns.seen c.args.columns.now).state in
    subst (λ (literals : List ℤ). IsPair c.args.mask.now (λ n. is_among (operand_at table (vector_at s c.args.id.batch c.args.id.vector) c.args.operand.now n) literals) c.among_side.result) c.as_slice.ensures
    (operand_among table s c.args.id.batch c.args.id.vector c.args.operand.now c.side_of-side.result c.as_slice.result.now c.args.mask.now _ c.requires.there c.side_of-side.ensures.value c.among_side.ensures.value)
