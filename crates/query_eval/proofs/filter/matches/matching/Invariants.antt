-- The names of the first batches are added.
use Rattle.std.proofs.Common.{◌≡◌, ◌+◌, ◌*◌, ◌≤◌, Some}
use Rattle.query_eval.specs.Kept.{live_vectors_below, names_kept}
use Rattle.query_eval.specs.Mentions.{condition_mentions}
use Rattle.query_eval.proofs.Lifted.{first_rows}
use Rattle.query_eval.proofs.filter.matches.matching.Given as goal

abbrev pub invariant-loop-batch : goal.invariant-loop-batch
invariant-loop-batch g l =
    let s = (g.C.Columns.seen l.initial.columns).state in
    let table = (g.C.Columns.seen l.initial.columns).table in
    record {
      names : l.names.items ≡ names_kept table (Some l.condition) (first_rows s l.batch);
      table : (g.C.Columns.seen l.columns).table ≡ table;
      state : (g.C.Columns.seen l.columns).state ≡ s;
      passes : (g.C.Columns.seen l.columns).passes ≤ (g.C.Columns.seen l.initial.columns).passes + condition_mentions l.condition * live_vectors_below s l.batch;
    }
