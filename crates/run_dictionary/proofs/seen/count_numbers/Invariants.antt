-- the values so far are the numbers, and those after them the first
use Rattle.std.proofs.Common.{◌≡◌, ℕ, ◌<◌, ◌≤◌, length, get_or}
use Rattle.std.specs.Int.{w64, cast_signed}
use Rattle.bit_interleave.specs.Range.{value_at}
use Rattle.run_dictionary.proofs.seen.count_numbers.Given as goal

abbrev pub invariant-loop-i : goal.invariant-loop-i
invariant-loop-i l = record {
  long : length l.values ≡ 1024;
  done : (k : ℕ) → k < l.i → value_at l.values k ≡ cast_signed w64 (get_or l.numbers k 0);
  rest : (k : ℕ) → l.i ≤ k → k < 1024 → value_at l.values k ≡ cast_signed w64 (get_or l.numbers 0 0);
}
