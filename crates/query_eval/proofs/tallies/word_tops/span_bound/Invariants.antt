-- None of the words so far is above.
use Rattle.std.proofs.Common.{◌/◌, ◌<◌, ◌≤◌, ◌≤ℤ◌, ℕ, get_or, pos}
use Rattle.query_eval.proofs.tallies.word_tops.span_bound.Given as goal

abbrev pub invariant-loop-index : goal.invariant-loop-index
invariant-loop-index l = (j : ℕ) → l.first / 64 ≤ j → j < l.index → get_or l.tops j (pos 0) ≤ℤ l.bound
