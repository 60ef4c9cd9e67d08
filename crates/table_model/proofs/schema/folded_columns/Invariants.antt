-- The columns so far are those of the names so far.
use Rattle.std.proofs.Common.{◌≡◌, map, take}
use Rattle.table_model.specs.Table.{column_of}
use Rattle.table_model.proofs.schema.folded_columns.Given as goal

abbrev pub invariant-loop-name : goal.invariant-loop-name
invariant-loop-name l = l.made.items ≡ map column_of (map (λ c. (c.0.now, c.1)) (take l.name-index l.columns))
