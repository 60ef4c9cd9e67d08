-- Marked are the columns that the names so far name.
use Rattle.std.proofs.Common.{◌≡◌, ℕ, ◌<◌, length, take, slice_index_or, false}
use Rattle.table_model.specs.Table.{column_limit}
use Rattle.query_parser.specs.Resolve.{is_grouped}
use Rattle.query_parser.proofs.names.Names.new.Given as goal

abbrev pub invariant-loop-mention : goal.invariant-loop-mention
invariant-loop-mention l = (length l.grouped ≡ column_limit) × ((i : ℕ) → i < column_limit → slice_index_or l.grouped i false ≡ is_grouped l.columns (take l.mention-index l.grouping) i)
