-- The cells of a vector in some columns, as they are decoded.
use Rattle.std.specs.Prelude.{ℕ, cond, List, map, slice_index_or, Option, Some, None, ℤ, pos}
use Rattle.table_model.specs.State.{Cells}
use Rattle.transpose_order.specs.Mask.{has}
use Rattle.replica_reports.specs.declared.dump_rooms.ColumnRoom.{ColumnRoom}

-- the cell at a row: null, or the number there
abbrev pub room_cell : ColumnRoom → ℕ → Option ℤ
room_cell room n = cond (has room.nulls n) None (Some (slice_index_or room.numbers n (pos 0)))

-- the cells at a row, column by column
abbrev pub room_cells : List ColumnRoom → ℕ → Cells
room_cells rooms n = map (λ (room : ColumnRoom). room_cell room n) rooms
