-- The runs so far are spans, and the rows from the next one's start on are left, of which `row` is the first.
use Rattle.std.proofs.Common.{◌≡◌, ◌<◌, ◌≤◌, ℕ, true, false}
use Rattle.transpose_order.specs.Mask.{has}
use Rattle.query_eval.specs.Coded.{run_at}
use Rattle.query_eval.specs.Keys.{IsSlicing, run_key}
use Rattle.query_eval.specs.Places.{IsIndex}
use Rattle.query_eval.specs.Slices.{slices_of_spans}
use Rattle.query_eval.proofs.SpanLemmas.{rows_from}
use Rattle.query_eval.proofs.grouping.coded_runs.span_runs.Given as goal

abbrev pub invariant-loop-run : goal.invariant-loop-run
invariant-loop-run l = record {
  order : l.start ≤ l.row;
  within : l.row ≤ 1024;
  here : l.row < 1024 → has l.mask l.row ≡ true;
  none : (n : ℕ) → l.start ≤ n → n < l.row → has l.mask n ≡ false;
  run : l.start < 1024 → run_at l.starts l.start ≡ l.run;
  index : IsIndex l.initial.places → IsIndex l.places;
  spanned : IsSlicing (run_key l.starts l.values) l.mask (rows_from l.mask l.start) l.initial.places l.places (slices_of_spans l.mask l.spans.items);
}
