-- The figures of a column: how its vectors are coded, and what its live rows hold.
use Rattle.std.specs.Prelude.{ℕ, ◌+◌, ◌*◌, ◌/◌, ◌%◌, ◌^◌, ◌<◌, ◌≤◌, Bool, false, cond, ◌==◌, is_none, List, [], ◌∷◌, ◌++◌, codes, length, map as each, slice_index_or, count_by, sum_by, Option, Some, None, ℤ, pos}
use Rattle.std.specs.List.{flat_map}
use Rattle.std.specs.Fmt.{decimal, signed_decimal}
use Rattle.std.specs.FinMap as map
use Rattle.table_model.specs.Answer.{whole}
use Rattle.table_model.specs.Group.{cell, values_in}
use Rattle.table_model.specs.Query.{QueryShape}
use Rattle.table_model.specs.State.{State, Cells, live_rows, named_rows}
use Rattle.table_model.specs.Table.{ColumnShape, type_text}
use Rattle.table_model.specs.Values.{least, greatest}
use Rattle.table_model.specs.declared.answer.Field.{Field}
use Rattle.table_model.specs.declared.answer.Field.TheVariants.{Null, Whole, Millionths}
use Rattle.table_model.specs.declared.names.RowName.{RowName}
use Rattle.table_model.specs.declared.query.Fold.{Fold}
use Rattle.table_model.specs.declared.query.Fold.TheVariants.{Count, Min, Max}
use Rattle.table_model.specs.declared.query.Item.{Item}
use Rattle.table_model.specs.declared.query.ItemValue.TheVariants.{Computed}
use Rattle.table_model.specs.declared.query.SetFunction.TheVariants.{CountRows, Of}
use Rattle.segment_core.specs.Coded.{coding_of, payload_bytes}
use Rattle.segment_core.specs.CodedVector.{VectorForm}
use Rattle.segment_core.specs.VectorBytes.{tag_of}
use Rattle.segment_core.specs.declared.coding.Coding.{Coding}
use Rattle.segment_core.specs.declared.coding.Coding.TheVariants.{For as ByFrame, Delta as ByDeltas, Runs as ByRuns, Dict as ByDictionary}
use Rattle.replica_store.specs.Segments.{Entry, StoreForm}
use Rattle.replica_reports.specs.declared.column_parts.ColumnParts.{ColumnParts}
use Rattle.replica_reports.specs.declared.live_figures.LiveFigures.{LiveFigures}

-- ---- how vectors are coded

-- how many bytes a vector's null mask takes, if it has one
abbrev pub mask_bytes : Option (List Bool) → ℕ
mask_bytes None = 0
mask_bytes (Some nulls) = 128

-- how many bytes a vector takes in a file: five before its null mask and its payload
abbrev pub vector_bytes : VectorForm → ℕ
vector_bytes v = 5 + mask_bytes v.nulls + payload_bytes v.coded

-- whether a vector has a coding
abbrev pub has_coding : Coding → VectorForm → Bool
has_coding coding v = tag_of (coding_of v.coded) == tag_of coding

-- how many of some vectors have each coding, and how many bytes all of them take
abbrev pub parts_in : List VectorForm → ColumnParts
parts_in vectors = record {
  frames = count_by (has_coding ByFrame) vectors;
  deltas = count_by (has_coding ByDeltas) vectors;
  runs = count_by (has_coding ByRuns) vectors;
  dictionaries = count_by (has_coding ByDictionary) vectors;
  bytes = sum_by vector_bytes vectors;
}

-- the vectors of a column in the segments of batches, in ascending order of name
abbrev pub column_vectors : ℕ → List Entry → List VectorForm
column_vectors column es = flat_map (λ (e : Entry). slice_index_or e.1.forms column []) es

-- the same counts of one vector that has a coding and takes a number of bytes
abbrev pub in_coding : Coding → ℕ → ColumnParts
in_coding coding bytes = record {
  frames = cond (tag_of coding == 0) 1 0;
  deltas = cond (tag_of coding == 1) 1 0;
  runs = cond (tag_of coding == 2) 1 0;
  dictionaries = cond (tag_of coding == 3) 1 0;
  bytes = bytes;
}

-- the counts of some vectors and of others
abbrev pub joined : ColumnParts → ColumnParts → ColumnParts
joined some others = record {
  frames = some.frames + others.frames;
  deltas = some.deltas + others.deltas;
  runs = some.runs + others.runs;
  dictionaries = some.dictionaries + others.dictionaries;
  bytes = some.bytes + others.bytes;
}

-- the counts are those of at most this many vectors
pub record IsAtMost (n : ℕ) (parts : ColumnParts) : Type 0 where
  pub frames : parts.frames ≤ n
  pub deltas : parts.deltas ≤ n
  pub runs : parts.runs ≤ n
  pub dictionaries : parts.dictionaries ≤ n
  pub bytes : parts.bytes ≤ n * 65668

-- two such counts can be added
pub record AreFew (parts : ColumnParts) : Type 0 where
  pub frames : parts.frames < 2 ^ 63
  pub deltas : parts.deltas < 2 ^ 63
  pub runs : parts.runs < 2 ^ 63
  pub dictionaries : parts.dictionaries < 2 ^ 63
  pub bytes : parts.bytes < 2 ^ 63

-- ---- what live rows hold

-- the live rows of a state, without their names
abbrev pub live_cells : State → List Cells
live_cells s = each (λ (row : RowName × Cells). row.1) (live_rows s)

-- how many of some rows are null in a column
abbrev pub nulls_in : ℕ → List Cells → ℕ
nulls_in column rows = count_by (λ row. is_none (cell row column)) rows

-- of some rows and a column: how many there are, how many values, the least and the greatest
abbrev pub figure_fields : List Cells → ℕ → List Field
figure_fields rows column =
    Whole (pos (length rows)) ∷ Whole (pos (length (values_in column rows))) ∷ whole (least (values_in column rows)) ∷ whole (greatest (values_in column rows)) ∷ []

-- how many of some rows are null in a column and how many aren't, and the least and the greatest value there
abbrev pub figures_in : List Cells → ℕ → LiveFigures
figures_in rows column = record {
  nulls = pos (nulls_in column rows);
  values = pos (length (values_in column rows));
  least = whole (least (values_in column rows));
  greatest = whole (greatest (values_in column rows));
}

-- the same of a state's live rows
abbrev pub live_figures : State → ℕ → LiveFigures
live_figures s column = figures_in (live_cells s) column

-- a count, or 0 where a field is none
abbrev pub whole_or_zero : Field → ℤ
whole_or_zero Null = pos 0
whole_or_zero (Whole n) = n
whole_or_zero (Millionths n) = pos 0

-- a set function of a column's values, as a select item
abbrev pub figure_item : Fold → List ℕ → Item
figure_item fold name = record { value = Computed (Of fold false (record { name = name; at = 0 })); alias = None }

-- how many rows there are, how many values, the least and the greatest, as select items
abbrev pub figure_items : List ℕ → List Item
figure_items name = record { value = Computed CountRows; alias = None } ∷ figure_item Count name ∷ figure_item Min name ∷ figure_item Max name ∷ []

-- the query of a table that asks for them
abbrev pub figure_query : List ℕ → List ℕ → QueryShape
figure_query table name = record { items = figure_items name; table = table; filter = None; grouping = []; having = None }

-- ---- the line of a column

-- a value as it is written, and "-" where there is none
abbrev pub figure_text : Field → List ℕ
figure_text Null = codes "-"
figure_text (Whole n) = signed_decimal n
figure_text (Millionths n) = codes "-"

-- a number of hundredths with two decimals
abbrev pub hundredths_text : ℕ → List ℕ
hundredths_text n = decimal (n / 100) ++ (codes "." ++ (decimal (n % 100 / 10) ++ decimal (n % 100 % 10)))

-- how many bits a stored value takes: the bytes of a column's vectors by the rows that are stored, and "-" without rows
abbrev pub bits_text : ℕ → ℕ → List ℕ
bits_text bytes rows = cond (rows == 0) (codes "-") (hundredths_text (bytes * 800 / rows))

-- the texts of a column's figures, of which this many rows are stored: its name and type; how many live rows are null and how many
-- aren't, the least and the greatest value; how many vectors have each coding, and how many bits a value takes
abbrev pub figure_texts : ColumnShape → LiveFigures → ColumnParts → ℕ → List (List ℕ)
figure_texts column live parts rows =
    column.name ∷ type_text column.column_type ∷ signed_decimal live.nulls ∷ signed_decimal live.values ∷ figure_text live.least ∷ figure_text live.greatest
    ∷ decimal parts.frames ∷ decimal parts.deltas ∷ decimal parts.runs ∷ decimal parts.dictionaries ∷ bits_text parts.bytes rows ∷ []

-- the line of a store's column at a place
abbrev pub column_line : StoreForm → ℕ → ColumnShape → List (List ℕ)
column_line s place column =
    figure_texts column (live_figures s.replica.state place) (parts_in (column_vectors place (map.entries s.segments))) (length (named_rows s.replica.state))

-- the lines of a store's columns from a place on
abbrev pub column_lines : StoreForm → ℕ → List ColumnShape → List (List (List ℕ))
column_lines s place [] = []
column_lines s place (column ∷ columns) = column_line s place column ∷ column_lines s (place + 1) columns
