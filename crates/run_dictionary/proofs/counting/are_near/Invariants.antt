-- the values so far are from the least to the greatest, and these are as near as bounds of the first value and of all so far allow
use Rattle.std.proofs.Common.{ℕ, ◌<◌, ℤ, ◌≤ℤ◌, FitsSigned}
use Rattle.std.specs.Int.{w64}
use Rattle.bit_interleave.specs.Range.{value_at}
use Rattle.run_dictionary.proofs.counting.are_near.Given as goal

abbrev pub invariant-loop-value : goal.invariant-loop-value
invariant-loop-value l = record {
  order : l.least ≤ℤ l.greatest;
  low : (k : ℕ) → k < l.value-index → l.least ≤ℤ value_at l.values k;
  high : (k : ℕ) → k < l.value-index → value_at l.values k ≤ℤ l.greatest;
  lower : (b : ℤ) → b ≤ℤ value_at l.values 0 → ((k : ℕ) → k < l.value-index → b ≤ℤ value_at l.values k) → b ≤ℤ l.least;
  upper : (b : ℤ) → value_at l.values 0 ≤ℤ b → ((k : ℕ) → k < l.value-index → value_at l.values k ≤ℤ b) → l.greatest ≤ℤ b;
  fit : (k : ℕ) → k < l.value-index → FitsSigned w64 (value_at l.values k);
}
