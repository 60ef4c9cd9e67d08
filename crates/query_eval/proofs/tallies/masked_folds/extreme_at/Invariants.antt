-- The rows of the words so far.
use Rattle.std.proofs.Common.{◌≡◌, ◌*◌}
use Rattle.query_eval.specs.Forms.{top_below}
use Rattle.query_eval.proofs.tallies.masked_folds.extreme_at.Given as goal

abbrev pub invariant-loop-index : goal.invariant-loop-index
invariant-loop-index l = l.top ≡ top_below l.extreme (64 * l.index) l.rows l.values
