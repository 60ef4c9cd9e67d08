-- The rows up to this one have the last value, and those before the rest are as they were.
use Rattle.std.proofs.Common.{◌≡◌, ℕ, ◌<◌, ◌≤◌, length}
use Rattle.bit_interleave.specs.Range.{value_at}
use Rattle.segment_core.proofs.fill.fill_rest.Given as goal

abbrev pub invariant-loop-row : goal.invariant-loop-row
invariant-loop-row l = record {
  long : length l.values ≡ 1024;
  kept : (n : ℕ) → n < l.rows → value_at l.values n ≡ value_at l.fn.values n;
  rest : (n : ℕ) → l.rows ≤ n → n < l.row → value_at l.values n ≡ l.last;
}
