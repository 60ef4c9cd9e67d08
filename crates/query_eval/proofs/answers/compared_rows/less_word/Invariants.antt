-- The bits so far.
use Rattle.std.proofs.Common.{◌≡◌, ◌+◌, cond, get_or, int_lt, pos}
use Rattle.transpose_order.specs.Mask.{number_of_bits}
use Rattle.query_eval.proofs.answers.compared_rows.less_word.Given as goal

abbrev pub invariant-loop-bit : goal.invariant-loop-bit
invariant-loop-bit l = l.word ≡ number_of_bits l.bit (λ b. cond (int_lt (get_or l.left (l.first + b) (pos 0)) (get_or l.right (l.first + b) (pos 0))) 1 0)
