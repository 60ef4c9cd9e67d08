-- The rows of the word so far.
use Rattle.std.proofs.Common.{◌≡◌, ◌==◌, ℕ, ◌+◌, ◌<◌, Bool, List}
use Rattle.std.specs.Int.{bit_at}
use Rattle.transpose_order.specs.Mask.{has}
use Rattle.query_eval.specs.Forms.{top_below}
use Rattle.query_eval.proofs.tallies.masked_folds.top_in_word.Given as goal

abbrev pub invariant-loop-bit : goal.invariant-loop-bit
invariant-loop-bit l = (rows : List Bool) → ((b : ℕ) → b < 64 → (bit_at l.word b == 1) ≡ has rows (l.first + b)) → l.fn.top ≡ top_below l.extreme l.first rows l.values → l.top ≡ top_below l.extreme (l.first + l.bit) rows l.values
