-- The kept rows of the first batches are taken in.
use Rattle.std.proofs.Common.{◌≡◌, ◌+◌, ◌*◌, ◌≤◌}
use Rattle.query_eval.specs.Grouping.{plan_mentions}
use Rattle.query_eval.specs.Kept.{where_mentions, live_vectors_below, rows_kept}
use Rattle.query_eval.specs.Taken.{AreTaken}
use Rattle.query_eval.proofs.Lifted.{first_alive}
use Rattle.query_eval.proofs.answers.taken_rows.take_rows.Given as goal

abbrev pub invariant-loop-batch : goal.invariant-loop-batch
invariant-loop-batch g l =
    let s = (g.C.Columns.seen l.initial.columns).state in
    let table = (g.C.Columns.seen l.initial.columns).table in
    record {
      taken : AreTaken l.plan (rows_kept table l.condition (first_alive s l.batch)) l.taken;
      table : (g.C.Columns.seen l.columns).table ≡ table;
      state : (g.C.Columns.seen l.columns).state ≡ s;
      passes : (g.C.Columns.seen l.columns).passes ≤ (g.C.Columns.seen l.initial.columns).passes + (where_mentions l.condition + plan_mentions l.plan) * live_vectors_below s l.batch;
    }
