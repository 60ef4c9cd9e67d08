-- The rows whose value is one of the literals so far.
use Rattle.std.proofs.Common.{◌≡◌, ◌<◌, ◌&&◌, ℕ, get_or, take}
use Rattle.transpose_order.specs.Mask.{has}
use Rattle.query_eval.specs.Coded.{is_code_among}
use Rattle.query_eval.proofs.filter.code_predicates.rows_among.Given as goal

abbrev pub invariant-loop-literal : goal.invariant-loop-literal
invariant-loop-literal l = (n : ℕ) → n < 1024 → has l.found n ≡ (has l.mask n && is_code_among l.count l.keys (take l.literal-index l.literals) (get_or l.codes n 0))
