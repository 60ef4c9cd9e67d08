-- The bits so far.
use Rattle.std.proofs.Common.{◌≡◌, ◌+◌, cond, get_or, pos}
use Rattle.std.specs.Ordering.{int_eq}
use Rattle.transpose_order.specs.Mask.{number_of_bits}
use Rattle.query_eval.proofs.filter.value_rows.equal_word.Given as goal

abbrev pub invariant-loop-bit : goal.invariant-loop-bit
invariant-loop-bit l = l.word ≡ number_of_bits l.bit (λ b. cond (int_eq l.value (get_or l.values (l.first + b) (pos 0))) 1 0)
