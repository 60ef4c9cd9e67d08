-- The words so far are counted.
use Rattle.std.proofs.Common.{◌≡◌, ℕ, ◌*◌, ◌<◌, ◌≤◌, length, slice_index}
use Rattle.transpose_order.specs.Mask.{truth_at, count_below}
use Rattle.query_eval.proofs.tallies.row_counts.rows_before_words.Given as goal

abbrev pub invariant-loop-j : goal.invariant-loop-j
invariant-loop-j l = record {
  long : length l.before ≡ 16;
  count : l.count ≡ count_below (truth_at l.words) (64 * l.j);
  few : l.count ≤ 64 * l.j;
  before : (k : ℕ) → k < l.j → slice_index l.before k ≡ count_below (truth_at l.words) (64 * k);
}
