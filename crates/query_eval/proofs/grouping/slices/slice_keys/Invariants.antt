-- The slices so far part the rows of the mask.
use Rattle.query_eval.specs.Keys.{IsSlicing, column_key}
use Rattle.query_eval.specs.Places.{IsIndex}
use Rattle.query_eval.proofs.grouping.slices.slice_keys.Given as goal

abbrev pub invariant-loop : goal.invariant-loop
invariant-loop l = record {
  index : IsIndex l.initial.places → IsIndex l.places;
  sliced : IsSlicing (column_key l.columns) l.mask l.left l.initial.places l.places l.slices.items;
}
