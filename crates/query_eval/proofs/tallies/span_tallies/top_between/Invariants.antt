-- The greatest of the rows so far.
use Rattle.std.proofs.Common.{◌≡◌, ◌+◌, Bool, List, ℤ}
use Rattle.query_eval.specs.Forms.{AreFormed, top_below}
use Rattle.query_eval.specs.Slices.{rows_between}
use Rattle.table_model.specs.declared.extreme.Extreme.{Extreme}
use Rattle.query_eval.specs.declared.tallies.forms.Form.TheVariants.{Shown}
use Rattle.query_eval.proofs.tallies.span_tallies.top_between.Given as goal

abbrev pub invariant-loop-value : goal.invariant-loop-value
invariant-loop-value l = (extreme : Extreme) (rows : List Bool) (values : List ℤ) → AreFormed (Shown extreme) rows values l.shown → l.top ≡ top_below extreme (l.first + l.value-index) (rows_between rows l.first l.end) values
