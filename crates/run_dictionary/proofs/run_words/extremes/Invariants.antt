-- the values so far are from the least to the greatest, which are values
use Rattle.std.proofs.Common.{◌≡◌, ℕ, ◌<◌, ◌≤ℤ◌, length}
use Rattle.bit_interleave.specs.Range.{value_at}
use Rattle.run_dictionary.proofs.run_words.extremes.Given as goal

abbrev pub invariant-loop-k : goal.invariant-loop-k
invariant-loop-k l = record {
  low : (i : ℕ) → i < l.k → l.least ≤ℤ value_at l.values.values i;
  high : (i : ℕ) → i < l.k → value_at l.values.values i ≤ℤ l.greatest;
  least : (i : ℕ) × (i < length l.values.values) × (value_at l.values.values i ≡ l.least);
  greatest : (i : ℕ) × (i < length l.values.values) × (value_at l.values.values i ≡ l.greatest);
}
