-- The cells so far.
use Rattle.std.proofs.Common.{◌≡◌, take}
use Rattle.query_eval.proofs.grouping.key.Key.copy.Given as goal

abbrev pub invariant-loop-cell : goal.invariant-loop-cell
invariant-loop-cell l = l.key ≡ take l.cell-index l.cells
