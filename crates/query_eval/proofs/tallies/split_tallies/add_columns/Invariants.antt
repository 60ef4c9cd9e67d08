-- The first aggregates have taken in the rows, and the others not yet.
use Rattle.std.proofs.Common.{◌≡◌, ◌+◌, ◌<◌, ◌≤◌, ℕ, length, get_or, take, sum_by}
use Rattle.std.specs.Global.{Vec}
use Rattle.query_eval.specs.Grouping.{IsTaken}
use Rattle.query_eval.specs.QueryMentions.{aggregate_mentions}
use Rattle.query_eval.specs.Vector.{vector_at}
use Rattle.query_eval.specs.declared.tallies.aggregate.Aggregate.{Aggregate}
use Rattle.query_eval.specs.declared.tallies.tally.Tally.{Tally}
use Rattle.query_eval.proofs.tallies.split_tallies.add_columns.Given as goal

abbrev pub invariant-loop-i : goal.invariant-loop-i
invariant-loop-i g l = record {
  size : length l.tallies.items ≡ length l.initial.tallies.items;
  taken : (j : ℕ) (a : Aggregate) (c : Vec Tally) → j < l.i → IsTaken (get_or l.aggregates j a) (vector_at (g.C.Columns.seen l.initial.columns).state l.kept.id.batch l.kept.id.vector) l.split l.count (get_or l.initial.tallies.items j c).items (get_or l.tallies.items j c).items;
  ahead : (j : ℕ) (c : Vec Tally) → l.i ≤ j → get_or l.tallies.items j c ≡ get_or l.initial.tallies.items j c;
  table : (g.C.Columns.seen l.columns).table ≡ (g.C.Columns.seen l.initial.columns).table;
  state : (g.C.Columns.seen l.columns).state ≡ (g.C.Columns.seen l.initial.columns).state;
  passes : (g.C.Columns.seen l.columns).passes ≤ (g.C.Columns.seen l.initial.columns).passes + sum_by aggregate_mentions (take l.i l.aggregates);
}
