-- The names of the first rows are added.
use Rattle.std.proofs.Common.{◌≡◌, ◌+◌, ◌++◌, cond, Some, None, map}
use Rattle.std.specs.List.{range_with_len}
use Rattle.table_model.specs.Values.{present}
use Rattle.transpose_order.specs.Mask.{has}
use Rattle.query_eval.proofs.filter.matches.push_names.Given as goal

abbrev pub invariant-loop-row : goal.invariant-loop-row
invariant-loop-row l =
    l.names.items ≡ l.initial.names.items ++ present (map (λ n. cond (has l.rows n) (Some (record { batch = l.batch; ordinal = l.first + n })) None) (range_with_len 0 l.row))
