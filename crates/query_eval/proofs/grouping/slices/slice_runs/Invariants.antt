-- The runs so far are spans, and the rows of the mask from the last one's end on are left.
use Rattle.std.proofs.Common.{◌≤◌}
use Rattle.query_eval.specs.Keys.{IsSlicing, column_key}
use Rattle.query_eval.specs.Places.{IsIndex}
use Rattle.query_eval.specs.Slices.{slices_of_spans}
use Rattle.query_eval.proofs.SpanLemmas.{rows_from}
use Rattle.query_eval.proofs.grouping.slices.slice_runs.Given as goal

abbrev pub invariant-loop : goal.invariant-loop
invariant-loop l = record {
  within : l.start ≤ 1024;
  index : IsIndex l.initial.places → IsIndex l.places;
  spanned : IsSlicing (column_key l.columns) l.mask (rows_from l.mask l.start) l.initial.places l.places (slices_of_spans l.mask l.spans.items);
}
