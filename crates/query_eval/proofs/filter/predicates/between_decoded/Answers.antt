-- Each side is decoded at the same state.
use Rattle.std.proofs.Common.{ap, ◌∙◌}
use Rattle.table_model.specs.State.{State}
use Rattle.query_eval.specs.Vector.{vector_at}
use Rattle.query_eval.proofs.PredicateLemmas.{decoded_between}
use Rattle.query_eval.proofs.filter.predicates.between_decoded.Goals as goal

pub returns-clause-value : goal.returns-clause-value
returns-clause-value g c =
    decoded_between (vector_at (g.C.Columns.seen c.args.columns.now).state c.args.id.batch c.args.id.vector) _ _ c.args.operand c.args.low c.args.high c.decode-operand.result c.decode-low.result c.decode-high.result c.args.mask.now _
    c.decode-operand.ensures.value c.decode-low.ensures.value c.decode-high.ensures.value
    (ap (λ (s : State). vector_at s c.args.id.batch c.args.id.vector) c.decode-operand.ensures.read.state)
    (ap (λ (s : State). vector_at s c.args.id.batch c.args.id.vector) (c.decode-low.ensures.read.state ∙ c.decode-operand.ensures.read.state))
    c.between_rows.ensures
