-- Both ends are cut at the vector's end.
use Rattle.std.proofs.Common.{List, Bool, ap}
use Rattle.query_eval.specs.declared.grouping.split.Slice.{Slice}
use Rattle.query_eval.proofs.SpanTallyLemmas.{between_same}
use Rattle.query_eval.proofs.tallies.span_tallies.within_vector.Goals as goal

pub returns-clause-same : goal.returns-clause-same
returns-clause-same c = λ mask.
    let slice : List Bool → Slice = λ rows. record { place = c.args.span.place; rows = rows; code = 0 } in
    ap slice (between_same mask c.args.span.first c.args.span.end c.min.result c.min-end.result c.min-end.ensures c.min.ensures)
