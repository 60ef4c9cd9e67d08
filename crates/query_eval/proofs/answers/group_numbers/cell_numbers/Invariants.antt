-- The columns so far.
use Rattle.std.proofs.Common.{◌≡◌, ℕ, get_or, length, IfSome, None}
use Rattle.query_eval.specs.GroupNumbers.{AreNumbers}
use Rattle.query_eval.specs.declared.answers.field_places.FieldPlace.TheVariants as places
use Rattle.query_eval.proofs.answers.group_numbers.cell_numbers.Given as goal

abbrev pub invariant-loop-place : goal.invariant-loop-place
invariant-loop-place l = record {
  long : length l.columns.items ≡ l.place;
  done : (p : ℕ) → IfSome (get_or l.columns.items p None) (AreNumbers l.groups (places.Cell p));
}
