-- The literals so far.
use Rattle.std.proofs.Common.{◌≡◌, get_or, pos, take}
use Rattle.std.specs.List.{list_any}
use Rattle.std.specs.Ordering.{int_eq}
use Rattle.transpose_order.specs.Mask.{rows_of}
use Rattle.query_eval.proofs.filter.rows.values_among.Given as goal

abbrev pub invariant-loop-literal : goal.invariant-loop-literal
invariant-loop-literal l = l.found ≡ rows_of (λ n. list_any (int_eq (get_or l.values n (pos 0))) (take l.literal-index l.literals))
