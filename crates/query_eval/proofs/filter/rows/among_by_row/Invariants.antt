-- The rows so far are judged.
use Rattle.std.proofs.Common.{cond, pos, slice_index_or, Some, None}
use Rattle.table_model.specs.Answer.{whole}
use Rattle.table_model.specs.Condition.{is_among}
use Rattle.transpose_order.specs.Mask.{has}
use Rattle.query_eval.specs.Below.{IsPairBelow}
use Rattle.query_eval.proofs.filter.rows.among_by_row.Given as goal

abbrev pub invariant-loop-row : goal.invariant-loop-row
invariant-loop-row l = IsPairBelow l.row l.mask (λ n. is_among (whole (cond (has l.nulls n) None (Some (slice_index_or l.values n (pos 0))))) l.literals) l.pair
