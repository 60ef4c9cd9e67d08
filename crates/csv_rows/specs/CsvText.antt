-- The rows of a text of comma-separated values, or its first fault.
use Rattle.std.specs.Prelude.{ℕ, suc, Bool, true, false, ◌==◌, ◌&&◌, not, cond, nat_lt, List, [], ◌∷◌, ◌++◌, length, map, replicate, set, slice_get, Option, Some, None, option_and_then, Result, Ok, Err, ℤ, position}
use Rattle.std.specs.List.{list_any, range_with_len}
use Rattle.table_model.specs.State.{Cells, Batch}
use Rattle.table_model.specs.Table.{Table, ColumnShape, has_name}
use Rattle.csv_rows.specs.DialectForm.{DialectForm, usual}
use Rattle.csv_rows.specs.Line.{line_limit, TextLine, lines_of, unmarked}
use Rattle.csv_rows.specs.Field.{fields_of, unquoted, cell_in}
use Rattle.csv_rows.specs.declared.error.CsvError.{CsvError}
use Rattle.csv_rows.specs.declared.error.CsvError.TheVariants.{BadCsv, LineTooLong}

infixl 10 ◌>>=◌
-- what comes next, where there was no fault
abbrev pub ◌>>=◌ : {X Y E : Type 0} → Result X E → (X → Result Y E) → Result Y E
Ok x >>= next = next x
Err e >>= next = Err e

-- a fault in a field of a line, which is reported by the field's column
abbrev pub in_line : {X : Type 0} → ℕ → Result X ℕ → Result X CsvError
in_line line (Ok x) = Ok x
in_line line (Err column) = Err (BadCsv line column)

-- the place of the column that a header's field names, in any case, quoted or not
abbrev pub place_named : List ColumnShape → List ℕ → Option ℕ
place_named columns field = position (λ column. has_name column.name (unquoted field)) columns

-- the place of a column that isn't named yet; else the fault is in the field of that column of the text
abbrev pub new_place : ℕ → List ℕ → Option ℕ → Result ℕ ℕ
new_place at named None = Err at
new_place at named (Some place) = cond (list_any (λ p. p == place) named) (Err at) (Ok place)

-- the places of the columns that a header's fields name, after those that are named already, or the first field, counted from at, that
-- names no column, or one for the second time
abbrev pub order_from : List ColumnShape → ℕ → List ℕ → List (List ℕ) → Result (List ℕ) ℕ
order_from columns at named [] = Ok named
order_from columns at named (field ∷ fields) = new_place at named (place_named columns field) >>= (λ place. order_from columns (suc at) (named ++ (place ∷ [])) fields)

-- whether a line has so many fields
abbrev pub has_each : DialectForm → ℕ → List ℕ → Bool
has_each dialect width line = length (fields_of dialect.separator line) == width

-- the columns of these places, one field for each
abbrev pub each_of : List ℕ → List (Option ℕ)
each_of places = map (λ place. Some place) places

-- how many fields a line has: one for each column, where the dialect does not say what they are
abbrev pub width_of : Option (List (Option ℕ)) → List ColumnShape → ℕ
width_of None columns = length columns
width_of (Some order) columns = length order

-- what a field is below the column of this place
abbrev pub cell_at : DialectForm → List ColumnShape → ℕ → List ℕ → Option (Option ℤ)
cell_at dialect columns place field = option_and_then (λ column. cell_in dialect column field) (slice_get columns place)

-- a cell, or the fault in the field of that column of the text
abbrev pub or_at : ℕ → Option (Option ℤ) → Result (Option ℤ) ℕ
or_at at None = Err at
or_at at (Some cell) = Ok cell

-- the row with a field's cell put at its column's place, or as it was where the field is passed over; or the fault
abbrev pub with_field : DialectForm → List ColumnShape → ℕ → Option ℕ → List ℕ → Cells → Result Cells ℕ
with_field dialect columns at None field row = Ok row
with_field dialect columns at (Some place) field row = or_at at (cell_at dialect columns place field) >>= (λ cell. Ok (set row place cell))

-- the row with the cell of each field put at its column's place, the columns standing in this order, or the first field at fault,
-- counted from at
abbrev pub filled : DialectForm → List ColumnShape → ℕ → List (Option ℕ) → List (List ℕ) → Cells → Result Cells ℕ
filled dialect columns at [] fields row = Ok row
filled dialect columns at (place ∷ order) [] row = Ok row
filled dialect columns at (place ∷ order) (field ∷ fields) row = with_field dialect columns at place field row >>= filled dialect columns (suc at) order fields

-- a row of nulls
abbrev pub null_row : List ColumnShape → Cells
null_row columns = replicate (length columns) None

-- the row of a line, the columns standing in this order: a column that no field is of is null
abbrev pub row_of : DialectForm → List ColumnShape → List (Option ℕ) → List ℕ → Result Cells ℕ
row_of dialect columns order line = cond (has_each dialect (length order) line) (filled dialect columns 1 order (fields_of dialect.separator line) (null_row columns)) (Err 0)

-- an order, unless the first line is a row by it, and so no header
abbrev pub unless_row : List (Option ℕ) → Result Cells CsvError → Result (List (Option ℕ)) CsvError
unless_row order (Ok row) = Err (BadCsv 1 0)
unless_row order (Err e) = Ok order

-- the order that a header gives: that of the columns that its fields name, where the dialect gives none
abbrev pub named_order : DialectForm → Option (List (Option ℕ)) → List ColumnShape → List ℕ → Result (List (Option ℕ)) CsvError
named_order dialect None columns line = in_line 1 (order_from columns 1 [] (fields_of dialect.separator line)) >>= (λ places. Ok (each_of places))
named_order dialect (Some order) columns line = unless_row order (in_line 1 (row_of dialect columns order line))

-- whether a line may be cut off: it has no end, and the dialect needs one
abbrev pub is_cut : DialectForm → TextLine → Bool
is_cut dialect line = dialect.needs_ends && not line.has_end

-- whether a line can be a header: it isn't cut off, it isn't empty, and it has as many fields as each line
abbrev pub may_name : DialectForm → List ColumnShape → TextLine → Bool
may_name dialect columns line = not (is_cut dialect line) && (not (length line.bytes == 0) && has_each dialect (width_of dialect.order columns) line.bytes)

-- the order of the columns that a header, the first line, gives
unfoldable pub header_order : DialectForm → List ColumnShape → TextLine → Result (List (Option ℕ)) CsvError
header_order dialect columns line =
    cond (nat_lt line_limit (length line.bytes)) (Err (LineTooLong 1))
    (cond (may_name dialect columns line) (named_order dialect dialect.order columns line.bytes) (Err (BadCsv 1 0)))

-- whether a line is passed over: it is empty, and lines have not one field alone
abbrev pub is_passed : List (Option ℕ) → List ℕ → Bool
is_passed order line = (length line == 0) && not (length order == 1)

-- the row of a line that isn't too long, unless it is cut off, which is seen before its fields are
abbrev pub uncut_row : DialectForm → List ColumnShape → List (Option ℕ) → TextLine → Result Cells ℕ
uncut_row dialect columns order line = cond (is_cut dialect line) (Err 0) (row_of dialect columns order line.bytes)

-- the rows that a line makes: one, or none where it is passed over
unfoldable pub line_rows : DialectForm → List ColumnShape → List (Option ℕ) → ℕ → TextLine → Result Batch CsvError
line_rows dialect columns order number line =
    cond (nat_lt line_limit (length line.bytes)) (Err (LineTooLong number))
    (cond (is_passed order line.bytes) (Ok []) (in_line number (uncut_row dialect columns order line) >>= (λ row. Ok (row ∷ []))))

-- rows before those that follow them
abbrev pub before_rows : Batch → Result Batch CsvError → Result Batch CsvError
before_rows rows (Ok more) = Ok (rows ++ more)
before_rows rows (Err e) = Err e

-- the rows of lines, the first having this number, or the first fault
abbrev pub rows_from : DialectForm → List ColumnShape → List (Option ℕ) → ℕ → List TextLine → Result Batch CsvError
rows_from dialect columns order number [] = Ok []
rows_from dialect columns order number (line ∷ lines) = line_rows dialect columns order number line >>= (λ rows. before_rows rows (rows_from dialect columns order (suc number) lines))

-- the order of columns in the schema
abbrev pub own_order : List ColumnShape → List (Option ℕ)
own_order columns = each_of (range_with_len 0 (length columns))

-- the order of the fields of a text without a header: that of the schema, where the dialect gives none
abbrev pub plain_order : Option (List (Option ℕ)) → List ColumnShape → List (Option ℕ)
plain_order None columns = own_order columns
plain_order (Some order) columns = order

-- the rows of a header and the lines below it, or the first fault
abbrev pub header_rows : DialectForm → List ColumnShape → List TextLine → Result Batch CsvError
header_rows dialect columns [] = Err (BadCsv 1 0)
header_rows dialect columns (header ∷ lines) = header_order dialect columns header >>= (λ order. rows_from dialect columns order 2 lines)

-- the rows of all lines, the first being a header if there is one
abbrev pub lines_rows : DialectForm → Table → Bool → List TextLine → Result Batch CsvError
lines_rows dialect table true lines = header_rows dialect table.columns lines
lines_rows dialect table false lines = rows_from dialect table.columns (plain_order dialect.order table.columns) 1 lines

-- the order of the columns: that of the first line where there is a header
abbrev pub heading_order : DialectForm → Table → Bool → List TextLine → Result (List (Option ℕ)) CsvError
heading_order dialect table false lines = Ok (plain_order dialect.order table.columns)
heading_order dialect table true [] = Err (BadCsv 1 0)
heading_order dialect table true (header ∷ lines) = header_order dialect table.columns header

-- the lines that are rows: those below the header, if there is one
abbrev pub below_heading : Bool → List TextLine → List TextLine
below_heading false lines = lines
below_heading true [] = []
below_heading true (header ∷ lines) = lines

-- how many lines are a header
abbrev pub headings : Bool → ℕ
headings false = 0
headings true = 1

-- the rows of a text in a dialect, or its first fault
abbrev pub rows_in : DialectForm → Table → Bool → List ℕ → Result Batch CsvError
rows_in dialect table has_header text = lines_rows dialect table has_header (lines_of (unmarked text))

-- the rows of a text in the usual dialect, or its first fault
abbrev pub csv_rows : Table → Bool → List ℕ → Result Batch CsvError
csv_rows table has_header text = rows_in usual table has_header text
