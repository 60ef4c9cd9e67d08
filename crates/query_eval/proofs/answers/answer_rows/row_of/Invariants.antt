-- The fields at the places so far.
use Rattle.std.proofs.Common.{◌≡◌, map, take}
use Rattle.query_eval.specs.FieldPlaces.{field_in}
use Rattle.query_eval.proofs.answers.answer_rows.row_of.Given as goal

abbrev pub invariant-loop-place : goal.invariant-loop-place
invariant-loop-place l = l.fields.items ≡ map (field_in l.group) (take l.place-index l.places)
