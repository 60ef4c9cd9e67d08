-- What the calls that give columns tell, and a table's schema.
use Rattle.std.specs.Prelude.{◌≡◌, ◌⊎◌, ℕ, ◌*◌, Bool, ◌&&◌, nat_le, cond, List, map, length, drop, ◌++◌, codes, MatchOption, Option, Result, Ok, Err, ℤ}
use Rattle.std.specs.List.{flat_map}
use Rattle.std.specs.Str.{IsUtf8}
use Rattle.std.specs.Str.Lossy.{utf8_valid_len}
use Rattle.table_model.specs.Formula.{Formula}
use Rattle.table_model.specs.State.{Cells, State}
use Rattle.table_model.specs.Table.{ColumnShape, Table as Schema, type_text}
use Rattle.table_model.specs.declared.names.RowName.{RowName}
use Rattle.table_model.specs.declared.refusal.Refusal.{Refusal}
use Rattle.table_model.specs.declared.refusal.Refusal.TheVariants.{Memory, NoSuchColumn, Syntax}
use Rattle.live_columns.specs.Between.{rows_between}
use Rattle.live_columns.specs.Chosen.{columns_in, rows_where}
use Rattle.live_columns.specs.Choices.{ChoiceForm, choice_of}
use Rattle.live_columns.specs.Columns.{null_count, numbers_of, stride_of, validities}
use Rattle.live_columns.specs.declared.choice.Choice.{Choice}
use Rattle.live_columns.specs.declared.choice.Unchosen.{Unchosen}
use Rattle.live_columns.specs.declared.choice.Unchosen.TheVariants as unchosen
use Rattle.replica_store.specs.Replica.{Replica}
use Rattle.lanes_c.specs.Calls.{Yields}
use Rattle.lanes_c.specs.Faults.{nowhere, number_of_fault, place_of_fault, told_of_choice}
use Rattle.lanes_c.specs.Opened.{IsNotOpen}
use Rattle.lanes_c.specs.Rooms.{Tells}
use Rattle.lanes_c.specs.declared.fault.Fault.{Fault}
use Rattle.lanes_c.specs.declared.fault.Fault.TheVariants.{Refused, InNames, NotOpen}
use Rattle.lanes_c.specs.declared.fault.Place.{Place}
use Rattle.lanes_c.specs.declared.handle.Table.{Table}

-- ---- columns

-- columns: how many rows they have, and the cells of each
pub record ColumnsForm : Type 0 where
  pub rows : ℕ
  pub columns : List (List (Option ℤ))

-- the rows at which a condition is true, of some rows
abbrev pub RowsWhere : Type 0
RowsWhere = Option Formula → List (RowName × Cells)

-- the columns of a choice at rows
abbrev pub columns_of : RowsWhere → ChoiceForm → ColumnsForm
columns_of rows choice = record { rows = length (rows choice.condition); columns = columns_in choice.places (rows choice.condition) }

-- the same, where what is asked for is known
abbrev pub columns_where : RowsWhere → Result ChoiceForm Unchosen → Result ColumnsForm Fault
columns_where rows (Ok choice) = Ok (columns_of rows choice)
columns_where rows (Err fault) = Err (told_of_choice fault)

-- The columns that are asked for by names of a table, with one space between, and a condition, at rows; or the first fault: of the
-- condition's text, of a name, of the condition's names.
abbrev pub columns_over : Schema → RowsWhere → List ℕ → List ℕ → Result ColumnsForm Fault
columns_over table rows names condition = columns_where rows (choice_of table 32 names condition)

-- the same at the live rows of a state
abbrev pub columns_at : Schema → State → List ℕ → List ℕ → Result ColumnsForm Fault
columns_at table s names condition = columns_over table (λ c. rows_where table c s) names condition

-- the same at the live rows of some of a state's batches: from a place on, at most a number of them
abbrev pub columns_between : Schema → State → ℕ → ℕ → List ℕ → List ℕ → Result ColumnsForm Fault
columns_between table s first count names condition = columns_over table (λ c. rows_between table c s first count) names condition

-- what bytes ask that have to be texts: the first that is none is reported before all else
abbrev pub AsksTexts : {X : Type 0} → (Result X Fault → Type 0) → Result X Fault → List ℕ → List ℕ → Type 0
AsksTexts Means given names condition =
    (IsUtf8 names → (IsUtf8 condition → Means given) × ((IsUtf8 condition → ⊥) → given ≡ Err (Refused (Syntax (utf8_valid_len condition)))))
    × ((IsUtf8 names → ⊥) → given ≡ Err (InNames (Syntax (utf8_valid_len names))))

-- what is given is what a meaning gives; out of memory may come in the place of anything
abbrev pub IsGiven : {X : Type 0} → Result X Fault → Result X Fault → Type 0
IsGiven meaning (Ok x) = meaning ≡ Ok x
IsGiven meaning (Err fault) = (meaning ≡ Err fault) ⊎ (fault ≡ Refused Memory)

-- ---- rooms

-- a caller's rooms for numbers, for validity bits and for counts of nulls
pub record ColumnRooms : Type 0 where
  pub values : List ℤ
  pub valid : List ℕ
  pub nulls : List ℕ

-- whether there is room for all columns
abbrev pub have_room : ColumnsForm → ColumnRooms → Bool
have_room form rooms =
    nat_le (length form.columns * form.rows) (length rooms.values) && (nat_le (length form.columns * stride_of form.rows) (length rooms.valid) && nat_le (length form.columns) (length rooms.nulls))

-- the rooms with the columns at their fronts; where one of them is too small, as they were
abbrev pub with_columns : ColumnsForm → ColumnRooms → ColumnRooms
with_columns form rooms =
    cond (have_room form rooms)
    (record {
      values = numbers_of form.columns ++ drop (length form.columns * form.rows) rooms.values;
      valid = validities form.columns ++ drop (length form.columns * stride_of form.rows) rooms.valid;
      nulls = map null_count form.columns ++ drop (length form.columns) rooms.nulls;
    })
    rooms

-- the same of rooms one by one
abbrev pub IsPut : ColumnsForm → List ℤ → List ℕ → List ℕ → List ℤ → List ℕ → List ℕ → Type 0
IsPut form values valid nulls values' valid' nulls' =
    record { values = values'; valid = valid'; nulls = nulls' } ≡ with_columns form (record { values = values; valid = valid; nulls = nulls })

-- ---- what is reported

-- what a call gave: how many rows, or why none
abbrev pub RowsGiven : Type 0
RowsGiven = Result ℕ Fault

-- the rows of columns, or why there are none
abbrev pub rows_given : Result ColumnsForm Fault → RowsGiven
rows_given (Ok form) = Ok form.rows
rows_given (Err fault) = Err fault

-- the rooms then
abbrev pub rooms_left : Result ColumnsForm Fault → ColumnRooms → ColumnRooms
rooms_left (Ok form) rooms = with_columns form rooms
rooms_left (Err fault) rooms = rooms

-- 0 is answered with columns, and else the fault's number
abbrev pub number_of_rows : RowsGiven → ℕ
number_of_rows (Ok rows) = 0
number_of_rows (Err fault) = number_of_fault fault

-- how many rows are told
abbrev pub rows_told : RowsGiven → ℕ
rows_told (Ok rows) = rows
rows_told (Err fault) = 0

-- the place that is reported
abbrev pub place_of_rows : RowsGiven → Place
place_of_rows (Ok rows) = nowhere
place_of_rows (Err fault) = place_of_fault fault

-- a choice that is read of names and a condition, or why not
abbrev pub told_choice : Result ChoiceForm Unchosen → Result ChoiceForm Fault
told_choice (Ok choice) = Ok choice
told_choice (Err fault) = Err (told_of_choice fault)

-- a choice as contracts see it
abbrev pub form_of : Result Choice Fault → Result ChoiceForm Fault
form_of (Ok choice) = Ok (record { condition = choice.condition; places = choice.places.items })
form_of (Err fault) = Err fault

-- what is read of names and a condition
abbrev pub ReadsChoice : Result Choice Fault → List ℕ → List ℕ → Schema → Type 0
ReadsChoice result names condition table = AsksTexts (IsGiven (told_choice (choice_of table 32 names condition))) (form_of result) names condition

-- columns that are written into rooms: what they are, how many rows they have, and what the rooms are then
pub record PutsColumns (result : RowsGiven) (names condition : List ℕ) (table : Schema) (rows : RowsWhere) (old new : ColumnRooms) : Type 0 where
  pub given : Result ColumnsForm Fault
  pub meant : AsksTexts (IsGiven (columns_over table rows names condition)) given names condition
  pub told : result ≡ rows_given given
  pub rooms : new ≡ rooms_left given old

-- what a call tells of columns: a number, how many rows, a place, and the rooms
pub record TellsColumns (Means : Result ColumnsForm Fault → Type 0) (number : ℕ) (old new : ColumnRooms) (told : ℕ) (at : Place) : Type 0 where
  pub given : Result ColumnsForm Fault
  pub meant : Means given
  pub number_is : number ≡ number_of_rows (rows_given given)
  pub rooms : new ≡ rooms_left given old
  pub rows : told ≡ rows_told (rows_given given)
  pub place : at ≡ place_of_rows (rows_given given)

-- Columns are read of a handle. It stays as it was. Of a closed one NotOpen is reported. Of an open one columns are given that its
-- replica has, and nothing else is written.
abbrev pub GivesColumns : (Replica → Result ColumnsForm Fault) → ℕ → List ℕ → List ℕ → Table → Table → ColumnRooms → ColumnRooms → ℕ → Place → Type 0
GivesColumns columns number names condition old new was rooms rows place =
    (new.replica ≡ old.replica)
    × MatchOption old.replica (TellsColumns (λ given. given ≡ Err NotOpen) number was rooms rows place)
    (λ r. TellsColumns (λ given. AsksTexts (IsGiven (columns r)) given names condition) number was rooms rows place)

-- lanes_columns: the columns of the replica's live rows
abbrev pub ColumnsOpen : ℕ → List ℕ → List ℕ → Table → Table → ColumnRooms → ColumnRooms → ℕ → Place → Type 0
ColumnsOpen number names condition old new was rooms rows place = GivesColumns (λ r. columns_at r.schema r.state names condition) number names condition old new was rooms rows place

-- lanes_columns_between: the columns of the live rows of some of the replica's batches
abbrev pub ColumnsBetweenOpen : ℕ → ℕ → ℕ → List ℕ → List ℕ → Table → Table → ColumnRooms → ColumnRooms → ℕ → Place → Type 0
ColumnsBetweenOpen number first count names condition old new was rooms rows place =
    GivesColumns (λ r. columns_between r.schema r.state first count names condition) number names condition old new was rooms rows place

-- ---- the schema

-- a column's name and its type, each behind a space
abbrev pub column_words : ColumnShape → List ℕ
column_words column = codes " " ++ (column.name ++ (codes " " ++ type_text column.column_type))

-- the words of a table: its name and, column by column, the column's name and its type
abbrev pub schema_words : Schema → List ℕ
schema_words table = table.name ++ flat_map column_words table.columns

-- lanes_schema: the handle stays as it was; of a closed one NotOpen is reported, and of an open one the words of its table are given
abbrev pub SchemaOpen : ℕ → Table → Table → List ℕ → List ℕ → ℕ → Place → Type 0
SchemaOpen number old new was room length place =
    (new.replica ≡ old.replica)
    × MatchOption old.replica (Tells IsNotOpen number was room length place) (λ r. Tells (λ given. Yields given (Ok (schema_words r.schema))) number was room length place)
