-- The kept rows of the first vectors are taken in.
use Rattle.std.proofs.Common.{◌≡◌, ◌+◌, ◌*◌, ◌≤◌, ◌++◌, List}
use Rattle.table_model.specs.State.{Cells}
use Rattle.transpose_order.specs.Mask.{count_below}
use Rattle.query_eval.specs.Grouping.{plan_mentions}
use Rattle.query_eval.specs.Kept.{where_mentions, has_live}
use Rattle.query_eval.specs.Taken.{AreTaken}
use Rattle.query_eval.specs.Vector.{vector_at}
use Rattle.query_eval.proofs.Lifted.{front_kept}
use Rattle.query_eval.proofs.answers.taken_rows.take_batch.Given as goal

abbrev pub invariant-loop-vector : goal.invariant-loop-vector
invariant-loop-vector g l =
    let s = (g.C.Columns.seen l.initial.columns).state in
    let table = (g.C.Columns.seen l.initial.columns).table in
    record {
      taken : (rows : List Cells) → AreTaken l.plan rows l.initial.taken → AreTaken l.plan (rows ++ front_kept table l.condition s l.batch l.vector) l.taken;
      table : (g.C.Columns.seen l.columns).table ≡ table;
      state : (g.C.Columns.seen l.columns).state ≡ s;
      passes : (g.C.Columns.seen l.columns).passes ≤ (g.C.Columns.seen l.initial.columns).passes + (where_mentions l.condition + plan_mentions l.plan) * count_below (λ vector. has_live (vector_at s l.batch vector)) l.vector;
    }
