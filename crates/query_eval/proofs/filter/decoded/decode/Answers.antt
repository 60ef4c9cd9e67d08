-- Nulls by the null mask, the others by the decoding.
use Rattle.std.proofs.Common.{sym, ap, ◌∙◌}
use Rattle.query_eval.specs.Side.{side_at}
use Rattle.query_eval.specs.Vector.{vector_at}
use Rattle.query_eval.specs.declared.filter.side.Side.{Side}
use Rattle.query_eval.proofs.DecodedLemmas.{decoded_cell}
use Rattle.query_eval.proofs.filter.decoded.decode.Goals as goal

pub returns-in-Column-clause-value : goal.returns-in-Column-clause-value
returns-in-Column-clause-value g c =
    let v = vector_at (g.C.Columns.seen c.args.columns.now).state c.args.id.batch c.args.id.vector in
    λ n h. decoded_cell v c.in-Column.column _ _ c.nulls-nulls.ensures c.decode_into.ensures.values n h ∙ sym (ap (λ (s : Side). side_at v s n) c.in-Column.is)
