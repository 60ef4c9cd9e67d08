-- Where no bit of the words so far is set, the mask doesn't turn.
use Rattle.std.proofs.Common.{◌≡◌, ◌==◌, ◌+◌, ◌<◌, ℕ, false, get_or, length}
use Rattle.std.specs.Int.{bit_at}
use Rattle.query_eval.proofs.filter.turning_rows.turning_rows.Given as goal

abbrev pub invariant-loop-index : goal.invariant-loop-index
invariant-loop-index l = record {
  long : length l.turning ≡ 16;
  before : (j : ℕ) → j + 1 ≡ l.index → l.before ≡ get_or l.words j 0;
  inside : (j b : ℕ) → j < l.index → b + 1 < 64 → (bit_at (get_or l.turning j 0) (b + 1) == 1) ≡ false → (bit_at (get_or l.words j 0) (b + 1) == 1) ≡ (bit_at (get_or l.words j 0) b == 1);
  joint : (j : ℕ) → j + 1 < l.index → (bit_at (get_or l.turning (j + 1) 0) 0 == 1) ≡ false → (bit_at (get_or l.words (j + 1) 0) 0 == 1) ≡ (bit_at (get_or l.words j 0) 63 == 1);
}
