-- All values before the first place are below the number, and none from the end on is.
use Rattle.std.proofs.Common.{ℕ, ◌-◌, ◌<◌, ◌≤◌, ◌<ℤ◌, ◌≤ℤ◌, length}
use Rattle.bit_interleave.specs.Range.{value_at}
use Rattle.run_dictionary.proofs.codes.first_from.Given as goal

abbrev pub invariant-loop-first : goal.invariant-loop-first
invariant-loop-first l = record {
  order : l.first ≤ l.end;
  within : l.end ≤ length l.dictionary.values;
  before : (k : ℕ) → k < l.first → value_at l.dictionary.values k <ℤ l.low;
  from : (k : ℕ) → l.end ≤ k → k < length l.dictionary.values → l.low ≤ℤ value_at l.dictionary.values k;
}

abbrev pub decreases-loop-first : goal.decreases-loop-first
decreases-loop-first l = l.end - l.first
