-- The bits so far.
use Rattle.std.proofs.Common.{◌≡◌, ◌+◌, cond}
use Rattle.transpose_order.specs.Mask.{number_of_bits}
use Rattle.query_eval.specs.Slices.{differs_at}
use Rattle.query_eval.proofs.filter.value_rows.changed_word.Given as goal

abbrev pub invariant-loop-bit : goal.invariant-loop-bit
invariant-loop-bit l = l.word ≡ number_of_bits l.bit (λ b. cond (differs_at l.values (l.first + b)) 1 0)
