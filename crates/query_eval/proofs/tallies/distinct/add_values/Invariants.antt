-- The values at the first rows are there, and so is that of the row before.
use Rattle.std.proofs.Common.{◌≡◌, ◌||◌, cond, take, pos, true, ℤ, Some, None, slice_index_or}
use Rattle.std.specs.Option.{IfSome}
use Rattle.std.specs.List.{list_any}
use Rattle.std.specs.Ordering.{int_eq}
use Rattle.table_model.specs.Values.{present}
use Rattle.transpose_order.specs.Mask.{rows_of, has}
use Rattle.query_eval.proofs.tallies.distinct.add_values.Given as goal

abbrev pub invariant-loop-row : goal.invariant-loop-row
invariant-loop-row l = record {
  values : (z : ℤ) → list_any (int_eq z) l.seen.values ≡ (list_any (int_eq z) l.initial.seen.values || list_any (int_eq z) (present (take l.row (rows_of (λ n. cond (has l.rows n) (Some (slice_index_or l.values n (pos 0))) None)))));
  before : IfSome l.before (λ last. list_any (int_eq last) l.seen.values ≡ true);
}
