-- The words so far.
use Rattle.std.proofs.Common.{◌≡◌, ◌+◌, ◌*◌, ◌<◌, ℕ, cond, get_or, int_lt, length, pos}
use Rattle.transpose_order.specs.Mask.{number_of_bits}
use Rattle.query_eval.proofs.answers.compared_rows.less_rows.Given as goal

abbrev pub invariant-loop-index : goal.invariant-loop-index
invariant-loop-index l = record {
  long : length l.words ≡ 16;
  done : (j : ℕ) → j < l.index → get_or l.words j 0 ≡ number_of_bits 64 (λ b. cond (int_lt (get_or l.left (64 * j + b) (pos 0)) (get_or l.right (64 * j + b) (pos 0))) 1 0);
}
