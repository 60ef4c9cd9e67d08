-- The bits of the values so far: where they are those of short ones, all of them are.
use Rattle.std.proofs.Common.{◌<◌, ◌^◌, ℕ, get_or, pos}
use Rattle.query_eval.specs.Slices.{AreShort, IsShort}
use Rattle.query_eval.proofs.tallies.masked_folds.are_short.Given as goal

abbrev pub invariant-loop-row : goal.invariant-loop-row
invariant-loop-row l = record {
  all : AreShort l.values → l.bits < 2 ^ 53;
  short : l.bits < 2 ^ 53 → (n : ℕ) → n < l.row → IsShort (get_or l.values n (pos 0));
}
