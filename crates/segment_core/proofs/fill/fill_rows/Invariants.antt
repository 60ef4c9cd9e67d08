-- The rows so far are filled, the others are as they were, and the latest value is that of the row before.
use Rattle.segment_core.proofs.FillLemmas.{Filling}
use Rattle.segment_core.proofs.fill.fill_rows.Given as goal

abbrev pub invariant-loop-row : goal.invariant-loop-row
invariant-loop-row l = Filling l.rows l.nulls l.fn.values l.values l.row l.latest
