-- The numbers before a lane are raised values.
use Rattle.std.proofs.Common.{◌≡◌, ℕ, ◌+◌, ◌^◌, ◌<◌, length, get_or, pos, ◌+ℤ◌}
use Rattle.query_eval.proofs.tallies.masked_folds.raised_eight.Given as goal

abbrev pub invariant-loop-lane : goal.invariant-loop-lane
invariant-loop-lane l = record {
  long : length l.numbers ≡ 8;
  value : (k : ℕ) → k < l.lane → pos (get_or l.numbers k 0) ≡ get_or l.values (l.first + k) (pos 0) +ℤ pos (2 ^ 52);
  below : (k : ℕ) → k < l.lane → get_or l.numbers k 0 < 2 ^ 53;
}
