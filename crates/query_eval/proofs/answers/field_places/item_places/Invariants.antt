-- The places of the items so far.
use Rattle.std.proofs.Common.{◌≡◌, map, take}
use Rattle.query_eval.specs.FieldPlaces.{item_place}
use Rattle.query_eval.proofs.answers.field_places.item_places.Given as goal

abbrev pub invariant-loop-item : goal.invariant-loop-item
invariant-loop-item l = l.places.items ≡ map (λ item. item_place l.schema.columns l.plan item.value) (take l.item-index l.items)
