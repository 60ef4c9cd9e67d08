-- The set functions of the items so far are added.
use Rattle.std.proofs.Common.{◌≡◌, ◌++◌, map, take}
use Rattle.std.specs.List.{flat_map}
use Rattle.query_eval.specs.Aggregate.{aggregate_of, item_functions}
use Rattle.query_eval.proofs.tallies.plan.add_items.Given as goal

abbrev pub invariant-loop-item : goal.invariant-loop-item
invariant-loop-item l = l.out.items ≡ l.initial.out.items ++ map (aggregate_of l.schema.columns) (flat_map (λ item. item_functions item.value) (take l.item-index l.items))
