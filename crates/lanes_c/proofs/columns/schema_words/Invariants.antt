-- The words of the first columns are there.
use Rattle.std.proofs.Common.{◌≡◌, ◌++◌, take}
use Rattle.std.specs.List.{flat_map}
use Rattle.lanes_c.specs.ColumnCalls.{column_words}
use Rattle.lanes_c.proofs.columns.schema_words.Given as goal

abbrev pub invariant-loop-column : goal.invariant-loop-column
invariant-loop-column l = l.words.items ≡ l.schema.name ++ flat_map column_words (take l.column-index l.schema.columns)
