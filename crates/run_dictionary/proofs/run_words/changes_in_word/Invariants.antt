-- the bits below p are the changes, and none is set from p on
use Rattle.std.proofs.Common.{◌≡◌, ◌==◌, ℕ, ◌+◌, ◌*◌, ◌<◌, ◌≤◌}
use Rattle.std.specs.Int.{bit_at}
use Rattle.bit_interleave.specs.Range.{value_at}
use Rattle.run_dictionary.specs.Runs.{changes_at}
use Rattle.run_dictionary.proofs.run_words.changes_in_word.Given as goal

abbrev pub invariant-loop-p : goal.invariant-loop-p
invariant-loop-p l = record {
  below : (q : ℕ) → q < l.p → (bit_at l.word q == 1) ≡ changes_at (value_at l.values) (64 * l.j + q);
  above : (q : ℕ) → l.p ≤ q → q < 64 → bit_at l.word q ≡ 0;
}
