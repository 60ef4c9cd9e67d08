-- A coded vector: up to 1024 rows of a column, which of them are null, and their values.
use Rattle.std.specs.Prelude.{◌≡◌, ℕ, ◌<◌, ◌≤◌, Bool, true, false, cond, ℤ, pos, List, map, length, slice_index_or, Option, Some, None}
use Rattle.std.specs.List.{range_with_len, list_any}
use Rattle.transpose_order.specs.Mask.{rows_of, has}
use Rattle.segment_core.specs.Fill.{filled}
use Rattle.segment_core.specs.Coded.{value_in, lane_width_of, coding_of, payload_bytes, least_form, IsCodedForm}
use Rattle.segment_core.specs.Choice.{canonical_form, place_in_order}
use Rattle.segment_core.specs.declared.coding.Coding.{Coding}
use Rattle.segment_core.specs.declared.coded.Coded.{Coded}

-- a coded vector: how many rows it covers, which of them are null if one is, and its values, which mean nothing at other places
pub record VectorForm : Type 0 where
  pub rows : ℕ
  pub nulls : Option (List Bool)
  pub coded : Coded

-- whether row n is null
abbrev pub is_null : Option (List Bool) → ℕ → Bool
is_null None n = false
is_null (Some mask) n = has mask n

-- the cell at row n: null, or the value
abbrev pub vector_cell : VectorForm → ℕ → Option ℤ
vector_cell v n = cond (is_null v.nulls n) None (Some (value_in v.coded n))

-- the cells of the rows that it covers
unfoldable pub cells_of : VectorForm → List (Option ℤ)
cells_of v = map (vector_cell v) (range_with_len 0 v.rows)

-- a null mask is of 1024 rows, and has at least one of the rows that are covered, and no row past them
pub record IsNullMask (rows : ℕ) (mask : List Bool) : Type 0 where
  pub long : length mask ≡ 1024
  pub one : (n : ℕ) × (n < rows) × (has mask n ≡ true)
  pub past : (n : ℕ) → rows ≤ n → has mask n ≡ false

-- there is no null mask, or it is one of these rows
abbrev pub AreNulls : ℕ → Option (List Bool) → Type 0
AreNulls rows None = Unit {0}
AreNulls rows (Some mask) = IsNullMask rows mask

-- a coded vector covers 1 to 1024 rows, its values are a form of their coding, and it has a null mask exactly where one of those
-- rows is null, with no row past them
pub record IsVector (v : VectorForm) : Type 0 where
  pub form : IsCodedForm v.coded
  pub some : 1 ≤ v.rows
  pub limit : v.rows ≤ 1024
  pub nulls : AreNulls v.rows v.nulls

-- whether a cell is null
abbrev pub is_null_cell : Option ℤ → Bool
is_null_cell None = true
is_null_cell (Some value) = false

-- the rows whose cells are null
unfoldable pub null_rows : List (Option ℤ) → List Bool
null_rows cells = rows_of (λ n. is_null_cell (slice_index_or cells n (Some (pos 0))))

-- a mask that has a row, or none
abbrev pub some_rows : List Bool → Option (List Bool)
some_rows mask = cond (list_any (λ row. row) mask) (Some mask) None

-- the null mask of cells of which one is null, or none
abbrev pub null_mask : List (Option ℤ) → Option (List Bool)
null_mask cells = some_rows (null_rows cells)

-- the canonical vector of some cells, 1 to 1024 of them, at a lane width: the canonical form of the filled vector
abbrev pub canonical_vector : ℕ → List (Option ℤ) → VectorForm
canonical_vector t cells = record { rows = length cells; nulls = null_mask cells; coded = canonical_form t (filled cells) }

-- the canonical vector of a vector's own cells, at its lane width
abbrev pub canonical_of : VectorForm → VectorForm
canonical_of v = canonical_vector (lane_width_of v.coded) (cells_of v)

-- a vector in another coding: the least form that the coding has of the filled vector
abbrev pub recoded_vector : Coding → VectorForm → VectorForm
recoded_vector coding v = record v { coded = least_form coding (lane_width_of v.coded) (filled (cells_of v)) }

-- a vector that can replace another: it covers as many rows at the same lane width, and its cells are the same
pub record StandsFor (made v : VectorForm) : Type 0 where
  pub form : IsVector made
  pub rows : made.rows ≡ v.rows
  pub lane_width : lane_width_of made.coded ≡ lane_width_of v.coded
  pub cells : (n : ℕ) → n < v.rows → vector_cell made n ≡ vector_cell v n

-- ---- the canonical vector among the four least forms of the filled vector

-- the values of the canonical vector of some cells, coded
abbrev pub canonical_values : ℕ → List (Option ℤ) → Coded
canonical_values t cells = (canonical_vector t cells).coded

-- they are the least form that their coding has of the filled vector
abbrev pub CanonicalIsLeastForm : Type 0
CanonicalIsLeastForm = (t : ℕ) (cells : List (Option ℤ)) → canonical_values t cells ≡ least_form (coding_of (canonical_values t cells)) t (filled cells)

-- no coding's least form of the filled vector takes fewer bytes
abbrev pub CanonicalTakesFewest : Type 0
CanonicalTakesFewest = (t : ℕ) (cells : List (Option ℤ)) (other : Coding) → payload_bytes (canonical_values t cells) ≤ payload_bytes (least_form other t (filled cells))

-- the least form of each coding before theirs in the order FOR, DELTA, RLE, DICT takes more
abbrev pub CanonicalIsFirst : Type 0
CanonicalIsFirst =
    (t : ℕ) (cells : List (Option ℤ)) (other : Coding) → place_in_order other < place_in_order (coding_of (canonical_values t cells)) → payload_bytes (canonical_values t cells) < payload_bytes (least_form other t (filled cells))
