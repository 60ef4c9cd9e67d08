-- The column that a field of a line is of.
use Rattle.std.specs.Prelude.{ℕ, ◌==◌, ◌||◌, ◌&&◌, ◌-◌, nat_le, cond, slice_get, List, Option, Some, None, option_and_then}
use Rattle.csv_rows.specs.Reading.{Reading}

-- the place of the column that the field at a place is of, where an order is known and the field isn't passed over
abbrev pub place_in : Option (List (Option ℕ)) → ℕ → Option ℕ
place_in None place = None
place_in (Some order) place = option_and_then (λ column. column) (slice_get order place)

-- the place of the column that a field of the line that was read last is of, by the field's column, counted from 1; a field of the header
-- is of none
abbrev pub column_of : Reading → ℕ → Option ℕ
column_of csv column = cond (column == 0 || (csv.has_header && nat_le csv.number 1)) None (place_in csv.order (column - 1))
