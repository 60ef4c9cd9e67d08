-- The first aggregates have taken in the rows, and the others not yet.
use Rattle.std.proofs.Common.{◌≡◌, ◌+◌, ◌<◌, ◌≤◌, ◌++◌, ℕ, List, length, get_or, take, sum_by}
use Rattle.table_model.specs.State.{Cells}
use Rattle.query_eval.specs.Grouping.{IsHeld}
use Rattle.query_eval.specs.Kept.{rows_at}
use Rattle.query_eval.specs.QueryMentions.{aggregate_mentions}
use Rattle.query_eval.specs.Taken.{AreTallied}
use Rattle.query_eval.specs.Vector.{vector_at}
use Rattle.query_eval.specs.declared.tallies.aggregate.Aggregate.{Aggregate}
use Rattle.query_eval.specs.declared.tallies.tally.Tally.{Tally}
use Rattle.query_eval.proofs.tallies.whole_tallies.tally_vector.Given as goal

abbrev pub invariant-loop-i : goal.invariant-loop-i
invariant-loop-i g l = record {
  size : length l.tallies.items ≡ length l.initial.tallies.items;
  held : (rows : List Cells) → AreTallied l.aggregates rows l.initial.tallies.items → (j : ℕ) (a : Aggregate) (t : Tally) → j < l.i → IsHeld (rows ++ rows_at (vector_at (g.C.Columns.seen l.initial.columns).state l.kept.id.batch l.kept.id.vector) l.kept.rows) (get_or l.aggregates j a) (get_or l.tallies.items j t);
  ahead : (j : ℕ) (t : Tally) → l.i ≤ j → get_or l.tallies.items j t ≡ get_or l.initial.tallies.items j t;
  table : (g.C.Columns.seen l.columns).table ≡ (g.C.Columns.seen l.initial.columns).table;
  state : (g.C.Columns.seen l.columns).state ≡ (g.C.Columns.seen l.initial.columns).state;
  passes : (g.C.Columns.seen l.columns).passes ≤ (g.C.Columns.seen l.initial.columns).passes + sum_by aggregate_mentions (take l.i l.aggregates);
}
