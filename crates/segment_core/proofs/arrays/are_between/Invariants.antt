-- The numbers so far are between.
use Rattle.std.proofs.Common.{ℕ, pos, ◌<◌, ◌≤ℤ◌, get_or}
use Rattle.segment_core.proofs.arrays.are_between.Given as goal

abbrev pub invariant-loop-number : goal.invariant-loop-number
invariant-loop-number l = (n : ℕ) → n < l.number-index → (l.least ≤ℤ get_or l.numbers n (pos 0)) × (get_or l.numbers n (pos 0) ≤ℤ l.greatest)
