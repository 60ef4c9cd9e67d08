-- the values before k are the first one
use Rattle.std.proofs.Common.{◌≡◌, ℕ, ◌<◌}
use Rattle.bit_interleave.specs.Range.{value_at}
use Rattle.run_dictionary.proofs.run_words.first_other.Given as goal

abbrev pub invariant-loop-k : goal.invariant-loop-k
invariant-loop-k l = (i : ℕ) → i < l.k → value_at l.values.values i ≡ value_at l.values.values 0
