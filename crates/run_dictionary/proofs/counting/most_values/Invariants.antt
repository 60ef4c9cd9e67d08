-- no width so far has more values below the bound, these are at most 1024, and so many values, if any, are below it
use Rattle.std.proofs.Common.{ℕ, ◌+◌, ◌-◌, ◌*◌, ◌/◌, ◌^◌, ◌<◌, ◌≤◌, min}
use Rattle.run_dictionary.proofs.SizeLemmas.{IsBelow}
use Rattle.run_dictionary.proofs.counting.most_values.Given as goal

abbrev pub invariant-loop-width : goal.invariant-loop-width
invariant-loop-width l = record {
  tried : (w : ℕ) → w < l.width → min (2 ^ w) ((l.bound - (128 * w + 1)) / (l.lane_width / 8)) ≤ l.most;
  many : l.most ≤ 1024;
  reached : IsBelow l.lane_width l.bound l.most;
}
