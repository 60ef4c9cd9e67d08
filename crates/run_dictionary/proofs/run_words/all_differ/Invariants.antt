-- the neighbours before k differ
use Rattle.std.proofs.Common.{◌≢◌, ℕ, ◌+◌, ◌<◌}
use Rattle.bit_interleave.specs.Range.{value_at}
use Rattle.run_dictionary.proofs.run_words.all_differ.Given as goal

abbrev pub invariant-loop-k : goal.invariant-loop-k
invariant-loop-k l = (i : ℕ) → i + 1 < l.k → value_at l.runs.values i ≢ value_at l.runs.values (i + 1)
