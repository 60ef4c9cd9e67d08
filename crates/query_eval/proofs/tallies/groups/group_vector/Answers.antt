-- The rows have their places, and the tallies at them take the rows in.
use Rattle.std.proofs.Common.{ap}
use Rattle.table_model.specs.State.{State}
use Rattle.query_eval.specs.Vector.{vector_at}
use Rattle.query_eval.proofs.VectorLemmas.{vector_more}
use Rattle.query_eval.proofs.tallies.groups.group_vector.Goals as goal

pub returns-clause-groups : goal.returns-clause-groups
returns-clause-groups g c =
    let batch = c.args.kept.now.id.batch in
    let vector = c.args.kept.now.id.vector in
    vector_more c.args.plan.now.grouping c.grouping.result.now c.args.plan.now.aggregates c.aggregates.result.now
    (vector_at (g.C.Columns.seen c.args.columns.now).state batch vector) (vector_at (g.C.Columns.seen c.place_rows.new.columns).state batch vector)
    c.args.kept.now.rows c.args.groups.now.places c.place_rows.new.places c.place_rows.new.room.split c.len-count.result c.args.groups.now.tallies.items c.add_columns.new.tallies.items
    c.grouping.ensures c.aggregates.ensures (ap (λ (x : State). vector_at x batch vector) c.place_rows.ensures.same.state)
    c.in_ok-place_rows.ensures.placed c.in_ok-place_rows.ensures.index c.len-count.ensures c.in_ok-add_columns.ensures.size c.in_ok-add_columns.ensures.taken
