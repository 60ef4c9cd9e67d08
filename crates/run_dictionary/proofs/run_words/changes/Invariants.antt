-- the words before j have the changes of their rows
use Rattle.std.proofs.Common.{◌≡◌, ◌==◌, ℕ, ◌+◌, ◌*◌, ◌<◌, slice_index_or, length}
use Rattle.std.specs.Int.{bit_at}
use Rattle.bit_interleave.specs.Range.{value_at}
use Rattle.run_dictionary.specs.Runs.{changes_at}
use Rattle.run_dictionary.proofs.run_words.changes.Given as goal

abbrev pub invariant-loop-j : goal.invariant-loop-j
invariant-loop-j l = (length l.words ≡ 16) × ((k p : ℕ) → k < l.j → p < 64 → (bit_at (slice_index_or l.words k 0) p == 1) ≡ changes_at (value_at l.values) (64 * k + p))
