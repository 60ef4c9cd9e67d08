-- Schemas: a table's name and its columns, and which rows fit them.
use Rattle.std.specs.Prelude.{◌≡◌, ℕ, suc, Bool, true, false, cond, not, ◌&&◌, ◌==◌, nat_le, nat_lt, ◌≤◌, List, [], ◌∷◌, map, length, codes, Option, Some, None, Result, Ok, Err, ℤ, pos, negsuc, ◌≤ℤ◌, int_le, refl}
use Rattle.std.specs.Coded.{Coded, code_by, coded×, coded_ℕ, coded_list}
use Rattle.std.specs.List.{list_any, list_all}
use Rattle.std.specs.Str.{bytes_eq}
use Rattle.table_model.specs.Identifier.{folded, same_text, is_identifier}
use Rattle.table_model.specs.State.{Cells, Batch}
use Rattle.table_model.specs.declared.schema.ColType.{ColType}
use Rattle.table_model.specs.declared.schema.ColType.TheVariants.{TinyInt, SmallInt, Integer, BigInt}
use Rattle.table_model.specs.declared.refusal.Refusal.{Refusal}
use Rattle.table_model.specs.declared.refusal.Refusal.TheVariants.{EmptyBatch, BatchTooLong, WrongArity, OutOfType, BadSchema}

-- how many bits a value of the type has
abbrev pub bits_of : ColType → ℕ
bits_of TinyInt = 8
bits_of SmallInt = 16
bits_of Integer = 32
bits_of BigInt = 64

-- the least value of the type
abbrev pub least_of : ColType → ℤ
least_of TinyInt = negsuc 127
least_of SmallInt = negsuc 32767
least_of Integer = negsuc 2147483647
least_of BigInt = negsuc 9223372036854775807

-- the greatest value of the type
abbrev pub greatest_of : ColType → ℤ
greatest_of TinyInt = pos 127
greatest_of SmallInt = pos 32767
greatest_of Integer = pos 2147483647
greatest_of BigInt = pos 9223372036854775807

-- whether a number is a value of the type
abbrev pub is_in_range : ColType → ℤ → Bool
is_in_range t z = int_le (least_of t) z && int_le z (greatest_of t)

-- a column: its name in upper case, and its type
pub record ColumnShape : Type 0 where
  pub name : List ℕ
  pub column_type : ColType

-- a schema: the table's name in upper case, and its columns from the left
pub record Table : Type 0 where
  pub name : List ℕ
  pub columns : List ColumnShape

-- the type's name in SQL
abbrev pub type_text : ColType → List ℕ
type_text TinyInt = codes "TINYINT"
type_text SmallInt = codes "SMALLINT"
type_text Integer = codes "INTEGER"
type_text BigInt = codes "BIGINT"

-- the type of this name, in upper case
abbrev pub type_named : List ℕ → Option ColType
type_named text =
    cond (bytes_eq text (type_text TinyInt)) (Some TinyInt)
    (cond (bytes_eq text (type_text SmallInt)) (Some SmallInt)
    (cond (bytes_eq text (type_text Integer)) (Some Integer)
    (cond (bytes_eq text (type_text BigInt)) (Some BigInt) None)))

-- whether two names are equal once folded
abbrev pub has_name : List ℕ → List ℕ → Bool
has_name name other = same_text (folded name) (folded other)

-- whether no two names are equal once folded
abbrev pub are_distinct : List (List ℕ) → Bool
are_distinct [] = true
are_distinct (name ∷ names) = not (list_any (has_name name) names) && are_distinct names

-- the name of a column that is asked for
abbrev pub name_of : List ℕ × ColType → List ℕ
name_of c = c.0

-- whether a column that is asked for has an identifier as its name
abbrev pub is_named : List ℕ × ColType → Bool
is_named c = is_identifier c.0

-- how many columns a table may have
abbrev pub column_limit : ℕ
column_limit = 32

-- whether a table may have this name and these columns: 1 to column_limit columns, each name an identifier, column names all different
unfoldable pub is_schema : List ℕ → List (List ℕ × ColType) → Bool
is_schema table columns =
    is_identifier table
    && (nat_le 1 (length columns) && (nat_le (length columns) column_limit
    && (list_all is_named columns
    && are_distinct (map name_of columns))))

-- a column that is asked for, as the schema has it
abbrev pub column_of : List ℕ × ColType → ColumnShape
column_of c = record { name = folded c.0; column_type = c.1 }

-- the table of a name and columns, names being folded
abbrev pub folded_table : List ℕ → List (List ℕ × ColType) → Table
folded_table table columns = record { name = folded table; columns = map column_of columns }

-- the schema of a name and columns, or the refusal
abbrev pub schema_of : List ℕ → List (List ℕ × ColType) → Result Table Refusal
schema_of table columns = cond (is_schema table columns) (Ok (folded_table table columns)) (Err BadSchema)

-- a schema's column as it would be asked for
abbrev pub asked_of : ColumnShape → List ℕ × ColType
asked_of c = (c.name, c.column_type)

-- a table that a schema has: asked for by its own name and columns, it is what comes, so that its names are identifiers in upper case
pub record IsTable (table : Table) : Type 0 where
  pub some : 1 ≤ length table.columns
  pub limit : length table.columns ≤ column_limit
  pub itself : schema_of table.name (map asked_of table.columns) ≡ Ok table

-- a cell is null or a value of its column's type
abbrev pub fits : ColumnShape → Option ℤ → Bool
fits c None = true
fits c (Some z) = is_in_range c.column_type z

-- the first, else the second
abbrev pub or_else : {X : Type 0} → Option X → Option X → Option X
or_else (Some x) o = Some x
or_else None o = o

-- the first cell from the left that is outside its column's type
abbrev pub cells_fault : ℕ → ℕ → List ColumnShape → Cells → Option Refusal
cells_fault row column [] cells = None
cells_fault row column (c ∷ cs) [] = None
cells_fault row column (c ∷ cs) (v ∷ vs) = cond (fits c v) (cells_fault row (suc column) cs vs) (Some (OutOfType row column))

-- a row has one cell for each column, and then each is in its column's type
abbrev pub row_fault : List ColumnShape → ℕ → Cells → Option Refusal
row_fault columns row cells = cond (length cells == length columns) (cells_fault row 0 columns cells) (Some (WrongArity row))

-- the first fault of the rows from the one with this ordinal on
abbrev pub first_fault : List ColumnShape → ℕ → Batch → Option Refusal
first_fault columns row [] = None
first_fault columns row (cells ∷ rows) = or_else (row_fault columns row cells) (first_fault columns (suc row) rows)

-- how many rows a batch may have
abbrev pub row_limit : ℕ
row_limit = 65536

-- the first fault of a batch's rows, if there is one
unfoldable pub rows_fault : Table → Batch → Option Refusal
rows_fault table rows =
    cond (length rows == 0) (Some EmptyBatch) (cond (nat_lt row_limit (length rows)) (Some BatchTooLong) (first_fault table.columns 0 rows))

-- a cell is null, or its type has the value
abbrev pub Fits : ColumnShape → Option ℤ → Type 0
Fits c None = Unit {0}
Fits c (Some z) = (least_of c.column_type ≤ℤ z) × (z ≤ℤ greatest_of c.column_type)

-- a row of a table: one cell for each column, each in its type
abbrev pub IsRow : List ColumnShape → Cells → Type 0
IsRow [] [] = Unit {0}
IsRow [] (v ∷ vs) = ⊥
IsRow (c ∷ cs) [] = ⊥
IsRow (c ∷ cs) (v ∷ vs) = Fits c v × IsRow cs vs

-- each is a row of the table
abbrev pub AreRows : List ColumnShape → Batch → Type 0
AreRows columns [] = Unit {0}
AreRows columns (cells ∷ rows) = IsRow columns cells × AreRows columns rows

-- a batch of a table: from 1 to 65,536 rows, each a row of the table
pub record IsBatch (table : Table) (rows : Batch) : Type 0 where
  pub some : 1 ≤ length rows
  pub limit : length rows ≤ row_limit
  pub rows_fit : AreRows table.columns rows

-- the type of a number of bits
abbrev pub type_of : ℕ → ColType
type_of bits = cond (bits == 8) TinyInt (cond (bits == 16) SmallInt (cond (bits == 32) Integer BigInt))

-- a type's bits give it back
abbrev pub type_of-bits_of : (t : ColType) → type_of (bits_of t) ≡ t
type_of-bits_of TinyInt = refl
type_of-bits_of SmallInt = refl
type_of-bits_of Integer = refl
type_of-bits_of BigInt = refl

-- a type by its number of bits
abbrev pub coded_type : Coded ColType
coded_type = code_by ℕ coded_ℕ bits_of type_of type_of-bits_of

-- a column by its name and its type
abbrev pub coded_column : Coded ColumnShape
coded_column = code_by (List ℕ × ColType) (coded× (coded_list coded_ℕ) coded_type) (λ c. (c.name, c.column_type)) (λ p. record { name = p.0; column_type = p.1 }) (λ _. refl)

-- a schema by its parts
abbrev pub coded_table : Coded Table
coded_table = code_by (List ℕ × List ColumnShape) (coded× (coded_list coded_ℕ) (coded_list coded_column)) (λ t. (t.name, t.columns)) (λ p. record { name = p.0; columns = p.1 }) (λ _. refl)

-- whether two types are the same
abbrev pub same_type : ColType → ColType → Bool
same_type a b = bits_of a == bits_of b

-- whether two columns are the same: their names and their types
abbrev pub same_column : ColumnShape → ColumnShape → Bool
same_column c d = same_text c.name d.name && same_type c.column_type d.column_type

-- whether two lists of columns are the same, column for column
abbrev pub same_columns : List ColumnShape → List ColumnShape → Bool
same_columns [] [] = true
same_columns [] (d ∷ ds) = false
same_columns (c ∷ cs) [] = false
same_columns (c ∷ cs) (d ∷ ds) = same_column c d && same_columns cs ds

-- whether two schemas are the same
unfoldable pub same_table : Table → Table → Bool
same_table s t = same_text s.name t.name && same_columns s.columns t.columns
