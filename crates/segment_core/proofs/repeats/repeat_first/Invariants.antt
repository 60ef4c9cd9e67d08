-- The marked rows so far repeat.
use Rattle.std.proofs.Common.{ℕ, ◌<◌}
use Rattle.segment_core.specs.Repeats.{RepeatsFirst}
use Rattle.segment_core.proofs.repeats.repeat_first.Given as goal

abbrev pub invariant-loop-j : goal.invariant-loop-j
invariant-loop-j l = (k : ℕ) → 0 < k → k < l.j → RepeatsFirst l.words l.numbers k
