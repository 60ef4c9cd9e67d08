-- None of the rows so far is above.
use Rattle.std.proofs.Common.{◌+◌, ◌<◌, ◌≤ℤ◌, ℕ, get_or, pos}
use Rattle.query_eval.proofs.tallies.word_tops.word_top.Given as goal

abbrev pub invariant-loop-bit : goal.invariant-loop-bit
invariant-loop-bit l = (b : ℕ) → b < l.bit → get_or l.shown (l.first + b) (pos 0) ≤ℤ l.top
