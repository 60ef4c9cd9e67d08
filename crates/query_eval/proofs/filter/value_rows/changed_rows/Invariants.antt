-- The words so far.
use Rattle.std.proofs.Common.{◌≡◌, ◌+◌, ◌*◌, ◌<◌, ℕ, cond, get_or, length}
use Rattle.transpose_order.specs.Mask.{number_of_bits}
use Rattle.query_eval.specs.Slices.{differs_at}
use Rattle.query_eval.proofs.filter.value_rows.changed_rows.Given as goal

abbrev pub invariant-loop-index : goal.invariant-loop-index
invariant-loop-index l = record {
  long : length l.words ≡ 16;
  done : (j : ℕ) → j < l.index → get_or l.words j 0 ≡ number_of_bits 64 (λ b. cond (differs_at l.values (64 * j + b)) 1 0);
}
