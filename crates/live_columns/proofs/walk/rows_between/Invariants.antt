-- The vectors of the first of these batches are added.
use Rattle.std.proofs.Common.{◌≡◌, ◌≤◌, ◌+◌, ◌*◌, min}
use Rattle.query_eval.specs.Kept.{where_mentions}
use Rattle.live_columns.specs.Between.{live_vectors_between, rows_between}
use Rattle.live_columns.specs.Chosen.{AreThere, rows_in}
use Rattle.live_columns.proofs.walk.rows_between.Given as goal

abbrev pub invariant-loop-step : goal.invariant-loop-step
invariant-loop-step g l =
    let s = (g.C.Columns.seen l.initial.columns).state in
    let table = (g.C.Columns.seen l.initial.columns).table in
    record {
      rows : rows_in s l.vectors.items ≡ rows_between table l.condition s l.first l.step;
      most : l.step ≤ min l.count l.left;
      there : AreThere s l.vectors.items;
      table : (g.C.Columns.seen l.columns).table ≡ table;
      state : (g.C.Columns.seen l.columns).state ≡ s;
      passes : (g.C.Columns.seen l.columns).passes ≤ (g.C.Columns.seen l.initial.columns).passes + where_mentions l.condition * live_vectors_between s l.first l.step;
    }
