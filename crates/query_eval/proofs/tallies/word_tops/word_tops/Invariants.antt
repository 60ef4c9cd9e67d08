-- None of the rows of the words so far is above its word's.
use Rattle.std.proofs.Common.{◌≡◌, ◌+◌, ◌*◌, ◌<◌, ◌≤ℤ◌, ℕ, get_or, length, pos}
use Rattle.query_eval.proofs.tallies.word_tops.word_tops.Given as goal

abbrev pub invariant-loop-index : goal.invariant-loop-index
invariant-loop-index l = record {
  long : length l.tops ≡ 16;
  top : (j b : ℕ) → j < l.index → b < 64 → get_or l.shown (64 * j + b) (pos 0) ≤ℤ get_or l.tops j (pos 0);
}
