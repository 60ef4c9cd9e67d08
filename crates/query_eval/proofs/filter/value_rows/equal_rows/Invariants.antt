-- The words so far.
use Rattle.std.proofs.Common.{◌≡◌, ◌+◌, ◌*◌, ◌<◌, ℕ, cond, get_or, length, pos}
use Rattle.std.specs.Ordering.{int_eq}
use Rattle.transpose_order.specs.Mask.{number_of_bits}
use Rattle.query_eval.proofs.filter.value_rows.equal_rows.Given as goal

abbrev pub invariant-loop-index : goal.invariant-loop-index
invariant-loop-index l = record {
  long : length l.words ≡ 16;
  done : (j : ℕ) → j < l.index → get_or l.words j 0 ≡ number_of_bits 64 (λ b. cond (int_eq l.value (get_or l.values (64 * j + b) (pos 0))) 1 0);
}
