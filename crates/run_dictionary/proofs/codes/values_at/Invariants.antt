-- the values of the codes so far are looked up
use Rattle.std.proofs.Common.{◌≡◌, ℕ, ◌<◌, slice_index, length, FitsSigned}
use Rattle.std.specs.Int.{w64}
use Rattle.bit_interleave.specs.Range.{value_at}
use Rattle.run_dictionary.proofs.codes.values_at.Given as goal

abbrev pub invariant-loop-i : goal.invariant-loop-i
invariant-loop-i l = record {
  long : length l.values ≡ 16;
  done : (k : ℕ) → k < l.i → value_at l.values k ≡ value_at l.dictionary.values (slice_index l.codes k);
  fit : (k : ℕ) → k < l.i → FitsSigned w64 (value_at l.values k);
}
