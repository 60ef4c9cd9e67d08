-- The words so far.
use Rattle.std.proofs.Common.{◌≡◌, ◌==◌, ◌+◌, ◌*◌, ◌<◌, ℕ, get_or, length}
use Rattle.std.specs.Int.{bit_at}
use Rattle.query_eval.proofs.filter.code_rows.coded_rows.Given as goal

abbrev pub invariant-loop-index : goal.invariant-loop-index
invariant-loop-index l = record {
  long : length l.words ≡ 16;
  done : (j b : ℕ) → j < l.index → b < 64 → (bit_at (get_or l.words j 0) b == 1) ≡ (get_or l.codes (64 * j + b) 0 == l.code);
}
