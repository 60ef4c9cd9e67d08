-- The names of the first vectors are added.
use Rattle.std.proofs.Common.{◌≡◌, ◌+◌, ◌*◌, ◌≤◌, ◌++◌, Some}
use Rattle.transpose_order.specs.Mask.{count_below}
use Rattle.query_eval.specs.Kept.{has_live}
use Rattle.query_eval.specs.Mentions.{condition_mentions}
use Rattle.query_eval.specs.Vector.{vector_at}
use Rattle.query_eval.proofs.Lifted.{front_items, row_named}
use Rattle.query_eval.proofs.filter.matches.match_batch.Given as goal

abbrev pub invariant-loop-vector : goal.invariant-loop-vector
invariant-loop-vector g l =
    let s = (g.C.Columns.seen l.initial.columns).state in
    let table = (g.C.Columns.seen l.initial.columns).table in
    record {
      names : l.names.items ≡ l.initial.names.items ++ front_items (row_named s l.batch) table (Some l.condition) s l.batch l.vector;
      table : (g.C.Columns.seen l.columns).table ≡ table;
      state : (g.C.Columns.seen l.columns).state ≡ s;
      passes : (g.C.Columns.seen l.columns).passes ≤ (g.C.Columns.seen l.initial.columns).passes + condition_mentions l.condition * count_below (λ vector. has_live (vector_at s l.batch vector)) l.vector;
    }
