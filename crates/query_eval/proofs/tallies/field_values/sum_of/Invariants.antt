-- The first values are summed.
use Rattle.std.proofs.Common.{◌≡◌, ◌*◌, ◌^◌, take}
use Rattle.table_model.specs.Group.{IsWithin}
use Rattle.table_model.specs.Values.{total}
use Rattle.query_eval.proofs.tallies.field_values.sum_of.Given as goal

abbrev pub invariant-loop-value : goal.invariant-loop-value
invariant-loop-value l = record { value : l.sum ≡ total (take l.value-index l.values); within : IsWithin (l.value-index * 2 ^ 63) l.sum }
