-- The canonical vectors of rows: each column's vectors cover its cells part by part, and stand for the rows.
use Rattle.std.proofs.Common.{◌≡◌, ℕ, zero, suc, ◌+◌, ◌-◌, ◌*◌, ◌/◌, ◌%◌, ◌<◌, ◌≤◌, ◌⊎◌, inl, inr, min, ℤ, ◌≤ℤ◌, FitsSigned, List, [], ◌∷◌, map, take, drop, length, get_or, slice_get, Option, Some, None, refl, sym, ◌∙◌, ap, subst, arith, rules}
use Rattle.std.specs.List.{range_with_len, take-map, drop-map}
use Rattle.std.proofs.lemmas.List.{same_lists, get_or-take, get_or-drop, take_all, length-take, length-drop, length-map, get_or_default}
use Rattle.std.proofs.lemmas.Bool.{cases_lt}
use Rattle.std.proofs.lemmas.List.FromFn.{length-map-range_with_len, get_or-map-range_with_len}
use Rattle.std.proofs.lemmas.Option.{slice_get_within, slice_get-get_or, get_or_from_slice_get}
use Rattle.transpose_order.specs.Place.{IsLaneWidth}
use Rattle.bit_interleave.specs.Arithmetic.{integer_width}
use Rattle.table_model.specs.State.{Cells, Batch}
use Rattle.table_model.specs.declared.schema.ColType.{ColType}
use Rattle.table_model.specs.declared.schema.ColType.TheVariants.{TinyInt, SmallInt, Integer, BigInt}
use Rattle.table_model.specs.Table.{Table, ColumnShape, bits_of, least_of, greatest_of, Fits, IsRow, AreRows, IsBatch, IsTable}
use Rattle.table_model.proofs.Batches.{row_length}
use Rattle.segment_core.specs.Fill.{AreCellsInRange}
use Rattle.segment_core.specs.Coded.{lane_width_of}
use Rattle.segment_core.specs.CodedVector.{VectorForm, IsVector, canonical_vector}
use Rattle.segment_core.specs.Segment.{column_cells, cells_in, canonical_column, canonical_forms, widths_of, vector_count, cell_of, column_cell, row_of, batch_of, HasColumn, IsColumn, IsSegment}
use Rattle.segment_core.proofs.GatherLemmas.{length-column_cells, get_or-column_cells}
use Rattle.segment_core.proofs.SegmentLemmas.{length-batch_of, get_or-batch_of}
use Rattle.segment_core.proofs.VectorLemmas.{canonical_cell, canonical_is_a_vector, lane_width-canonical}
use Rattle.segment_core.proofs.LaneWidths.{bits_are_lanes}

-- ---- a part of the rows
pub part_cells : (rows : Batch) (c k : ℕ) → column_cells (take 1024 (drop (1024 * k) rows)) c ≡ cells_in (column_cells rows c) k
part_cells rows c k =
    sym (take-map (λ (row : Cells). get_or row c None) 1024 (drop (1024 * k) rows)) ∙ ap (take 1024) (sym (drop-map (λ (row : Cells). get_or row c None) (1024 * k) rows))

pub length-cells_in : (cells : List (Option ℤ)) (k : ℕ) → length (cells_in cells k) ≡ min 1024 (length cells - 1024 * k)
length-cells_in cells k = length-take 1024 (drop (1024 * k) cells) ∙ ap (min 1024) (length-drop (1024 * k) cells)

pub get_or-cells_in : (cells : List (Option ℤ)) (k n : ℕ) (d : Option ℤ) → n < 1024 → get_or (cells_in cells k) n d ≡ get_or cells (1024 * k + n) d
get_or-cells_in cells k n d h = get_or-take 1024 (drop (1024 * k) cells) n d h ∙ get_or-drop (1024 * k) cells n d

pub part_in_range : (t : ℕ) (cells : List (Option ℤ)) (k : ℕ) → AreCellsInRange t cells → AreCellsInRange t (cells_in cells k)
part_in_range t cells k fit = λ n z l e.
    let short = length-cells_in cells k in
    let below : n < 1024 = omega arith in
    fit (1024 * k + n) z (omega arith) (sym (get_or-cells_in cells k n None below) ∙ e)

-- as many cells as vector k covers rows are its part
part_is_at : (cells : List (Option ℤ)) (k n : ℕ) → n ≡ min 1024 (length cells - 1024 * k) → (1024 * k + 1024 < length cells) ⊎ (length cells ≤ 1024 * k + 1024) → take n (drop (1024 * k) cells) ≡ cells_in cells k
part_is_at cells k n e (inl l) = ap (λ m. take m (drop (1024 * k) cells)) (let r : n ≡ 1024 = omega arith in r)
part_is_at cells k n e (inr l) =
    let short = length-drop (1024 * k) cells in
    take_all n (drop (1024 * k) cells) (omega arith) ∙ sym (take_all 1024 (drop (1024 * k) cells) (omega arith))

pub part_is : (cells : List (Option ℤ)) (k n : ℕ) → n ≡ min 1024 (length cells - 1024 * k) → take n (drop (1024 * k) cells) ≡ cells_in cells k
part_is cells k n e = part_is_at cells k n e (cases_lt (1024 * k + 1024) (length cells))

pub part_there : (rows : Batch) (c k : ℕ) → ((n : ℕ) → n < length rows → c < length (get_or rows n [])) → (n : ℕ) → n < length (take 1024 (drop (1024 * k) rows)) → c < length (get_or (take 1024 (drop (1024 * k) rows)) n [])
part_there rows c k h n l =
    let short = length-take 1024 (drop (1024 * k) rows) in
    let left = length-drop (1024 * k) rows in
    let below : n < 1024 = omega arith in
    let same : get_or (take 1024 (drop (1024 * k) rows)) n [] ≡ get_or rows (1024 * k + n) [] = get_or-take 1024 (drop (1024 * k) rows) n [] below ∙ get_or-drop (1024 * k) rows n [] in
    subst (λ (row : Cells). c < length row) (sym same) (h (1024 * k + n) (omega arith))

pub part_has_column : (t : ℕ) (rows : Batch) (c k : ℕ) → HasColumn t rows c → HasColumn t (take 1024 (drop (1024 * k) rows)) c
part_has_column t rows c k h = record {
  there = part_there rows c k h.there;
  fit = subst (λ (cells : List (Option ℤ)). AreCellsInRange t cells) (sym (part_cells rows c k)) (part_in_range t (column_cells rows c) k h.fit);
}

-- ---- the vectors of a column
pub length-canonical_column : (t : ℕ) (cells : List (Option ℤ)) → length (canonical_column t cells) ≡ vector_count (length cells)
unfolding canonical_column
length-canonical_column t cells = length-map-range_with_len (λ k. canonical_vector t (cells_in cells k)) 0 (vector_count (length cells))

pub slice_get-canonical_column : (t : ℕ) (cells : List (Option ℤ)) (k : ℕ) → k < vector_count (length cells) → slice_get (canonical_column t cells) k ≡ Some (canonical_vector t (cells_in cells k))
unfolding canonical_column
slice_get-canonical_column t cells k h =
    let made : ℕ → VectorForm = λ j. canonical_vector t (cells_in cells j) in
    let count : ℕ = vector_count (length cells) in
    let long : length (map made (range_with_len 0 count)) ≡ count = length-map-range_with_len made 0 count in
    slice_get-get_or (map made (range_with_len 0 count)) k (made k) (omega arith)
    ∙ ap Some (get_or-map-range_with_len made 0 count k k (made k) h (omega arith))

pub made_all : (t : ℕ) (cells : List (Option ℤ)) (count : ℕ) (vectors : List VectorForm) → count ≡ vector_count (length cells) → vectors ≡ map (λ k. canonical_vector t (cells_in cells k)) (range_with_len 0 count) → vectors ≡ canonical_column t cells
unfolding canonical_column
made_all t cells count vectors e is = is ∙ ap (λ n. map (λ k. canonical_vector t (cells_in cells k)) (range_with_len 0 n)) e

-- ---- what a batch's rows have
row_cell : (columns : List ColumnShape) (cells : Cells) (c : ℕ) (column : ColumnShape) → IsRow columns cells → slice_get columns c ≡ Some column → Fits column (get_or cells c None)
row_cell [] cells c column h e = absurd (cc)
row_cell (x ∷ xs) [] c column h e = absurd h
row_cell (x ∷ xs) (v ∷ vs) zero column h e = let same : x ≡ column = cc in subst (λ (y : ColumnShape). Fits y v) same h.0
row_cell (x ∷ xs) (v ∷ vs) (suc c) column h e = row_cell xs vs c column h.1 e

pub row_at : (columns : List ColumnShape) (rows : Batch) (n : ℕ) → AreRows columns rows → n < length rows → IsRow columns (get_or rows n [])
row_at columns [] n h l = absurd (omega arith)
row_at columns (row ∷ rows) zero h l = h.0
row_at columns (row ∷ rows) (suc n) h l = row_at columns rows n h.1 (omega arith)

value_fits : (t : ColType) (z : ℤ) → least_of t ≤ℤ z → z ≤ℤ greatest_of t → FitsSigned (integer_width (bits_of t)) z
value_fits TinyInt z l h = search rules
value_fits SmallInt z l h = search rules
value_fits Integer z l h = search rules
value_fits BigInt z l h = search rules

cell_fits : (column : ColumnShape) (cell : Option ℤ) (z : ℤ) → Fits column cell → cell ≡ Some z → FitsSigned (integer_width (bits_of column.column_type)) z
cell_fits column None z h e = absurd (cc)
cell_fits column (Some y) z h e = let same : y ≡ z = cc in subst (λ x. FitsSigned (integer_width (bits_of column.column_type)) x) same (value_fits column.column_type y h.0 h.1)

pub batch_has_column : (table : Table) (rows : Batch) (c : ℕ) (column : ColumnShape) → IsBatch table rows → slice_get table.columns c ≡ Some column → HasColumn (bits_of column.column_type) rows c
batch_has_column table rows c column h e =
    let within : c < length table.columns = slice_get_within table.columns c column e in
    record {
      there = λ n l. let long = row_length table.columns (get_or rows n []) (row_at table.columns rows n h.rows_fit l) in omega arith;
      fit = λ n z l is.
          let below : n < length rows = omega (arith, length-column_cells rows c) in
          cell_fits column (get_or (get_or rows n []) c None) z
          (row_cell table.columns (get_or rows n []) c column (row_at table.columns rows n h.rows_fit below) e)
          (sym (get_or-column_cells rows c n below) ∙ is);
    }

-- ---- the columns of a table's rows
pub length-widths_of : (table : Table) → length (widths_of table) ≡ length table.columns
length-widths_of table = length-map table.columns (λ (column : ColumnShape). bits_of column.column_type)

width_at : (columns : List ColumnShape) (c : ℕ) (column : ColumnShape) → slice_get columns c ≡ Some column → get_or (map (λ (x : ColumnShape). bits_of x.column_type) columns) c 0 ≡ bits_of column.column_type
width_at [] c column e = absurd (cc)
width_at (x ∷ xs) zero column e = let same : x ≡ column = cc in ap (λ (y : ColumnShape). bits_of y.column_type) same
width_at (x ∷ xs) (suc c) column e = width_at xs c column e

pub get_or-widths_of : (table : Table) (c : ℕ) (column : ColumnShape) → slice_get table.columns c ≡ Some column → get_or (widths_of table) c 0 ≡ bits_of column.column_type
get_or-widths_of table c column e = width_at table.columns c column e

pub length-canonical_forms : (widths : List ℕ) (rows : Batch) → length (canonical_forms widths rows) ≡ length widths
unfolding canonical_forms
length-canonical_forms widths rows = length-map-range_with_len (λ c. canonical_column (get_or widths c 0) (column_cells rows c)) 0 (length widths)

pub get_or-canonical_forms : (widths : List ℕ) (rows : Batch) (c : ℕ) (d : List VectorForm) → c < length widths → get_or (canonical_forms widths rows) c d ≡ canonical_column (get_or widths c 0) (column_cells rows c)
unfolding canonical_forms
get_or-canonical_forms widths rows c d h = get_or-map-range_with_len (λ c. canonical_column (get_or widths c 0) (column_cells rows c)) 0 (length widths) c c d h (omega arith)

pub forms_all : (widths : List ℕ) (rows : Batch) (count : ℕ) (forms : List (List VectorForm)) → count ≡ length widths → forms ≡ map (λ c. canonical_column (get_or widths c 0) (column_cells rows c)) (range_with_len 0 count) → forms ≡ canonical_forms widths rows
unfolding canonical_forms
forms_all widths rows count forms e is = is ∙ ap (λ n. map (λ c. canonical_column (get_or widths c 0) (column_cells rows c)) (range_with_len 0 n)) e

-- ---- they are a segment
vector_is : (t : ℕ) (cells : List (Option ℤ)) (k : ℕ) (v : VectorForm) → slice_get (canonical_column t cells) k ≡ Some v → v ≡ canonical_vector t (cells_in cells k)
vector_is t cells k v e =
    let within : k < vector_count (length cells) = let l = slice_get_within (canonical_column t cells) k v e in omega (arith, length-canonical_column t cells) in
    let f = slice_get-canonical_column t cells k within in cc

pub canonical_is_column : (t rows : ℕ) (cells : List (Option ℤ)) → IsLaneWidth t → AreCellsInRange t cells → length cells ≡ rows → IsColumn rows (canonical_column t cells)
canonical_is_column t rows cells lanes fit count = record {
  each = λ k v e.
      let within : k < vector_count (length cells) = let l = slice_get_within (canonical_column t cells) k v e in omega (arith, length-canonical_column t cells) in
      let short = length-cells_in cells k in
      subst (λ (x : VectorForm). IsVector x) (sym (vector_is t cells k v e))
      (canonical_is_a_vector t (cells_in cells k) lanes (omega arith) (omega arith) (part_in_range t cells k fit));
  count = length-canonical_column t cells ∙ ap vector_count count;
  cover = λ k v e. ap (λ (x : VectorForm). x.rows) (vector_is t cells k v e) ∙ length-cells_in cells k ∙ ap (λ n. min 1024 (n - 1024 * k)) count;
  one_width = λ j k u v e f.
      ap (λ (x : VectorForm). lane_width_of x.coded) (vector_is t cells j u e) ∙ lane_width-canonical t (cells_in cells j)
      ∙ sym (ap (λ (x : VectorForm). lane_width_of x.coded) (vector_is t cells k v f) ∙ lane_width-canonical t (cells_in cells k));
}

pub canonical_is_segment : (table : Table) (rows : Batch) → IsTable table → IsBatch table rows → IsSegment (length rows) (canonical_forms (widths_of table) rows)
canonical_is_segment table rows is h =
    let widths : List ℕ = widths_of table in
    let count : length (canonical_forms widths rows) ≡ length table.columns = length-canonical_forms widths rows ∙ length-widths_of table in
    record {
      some = h.some;
      limit = h.limit;
      some_columns = let l = is.some in omega arith;
      columns_limit = let l = is.limit in omega arith;
      columns = λ c vectors e.
          let within : c < length widths = let l = slice_get_within (canonical_forms widths rows) c vectors e in omega (arith, length-canonical_forms widths rows) in
          let same : canonical_column (get_or widths c 0) (column_cells rows c) ≡ vectors = sym (get_or-canonical_forms widths rows c [] within) ∙ get_or_from_slice_get (canonical_forms widths rows) c vectors [] e in
          let inside : c < length table.columns = omega (arith, length-widths_of table) in
          let column : ColumnShape = get_or table.columns c (record { name = []; column_type = SmallInt }) in
          let found : slice_get table.columns c ≡ Some column = slice_get-get_or table.columns c _ inside in
          let width : bits_of column.column_type ≡ get_or widths c 0 = sym (get_or-widths_of table c column found) in
          let fit : AreCellsInRange (get_or widths c 0) (column_cells rows c) = subst (λ (t : ℕ). AreCellsInRange t (column_cells rows c)) width (batch_has_column table rows c column h found).fit in
          subst (λ (vs : List VectorForm). IsColumn (length rows) vs) same
          (canonical_is_column (get_or widths c 0) (length rows) (column_cells rows c) (subst (λ (t : ℕ). IsLaneWidth t) width (bits_are_lanes column.column_type)) fit (length-column_cells rows c));
    }

-- ---- they stand for the rows
pub canonical_column_cell : (t : ℕ) (cells : List (Option ℤ)) (n : ℕ) → IsLaneWidth t → AreCellsInRange t cells → n < length cells → column_cell (canonical_column t cells) n ≡ get_or cells n None
canonical_column_cell t cells n w fit h =
    let k : ℕ = n / 1024 in
    let r : ℕ = n % 1024 in
    let part : List (Option ℤ) = cells_in cells k in
    let short : length part ≡ min 1024 (length cells - 1024 * k) = length-cells_in cells k in
    let below : r < 1024 = omega arith in
    let back : 1024 * k + r ≡ n = omega arith in
    ap (λ o. cell_of o r) (slice_get-canonical_column t cells k (omega arith))
    ∙ canonical_cell t part r w (omega arith) (part_in_range t cells k fit) (omega arith)
    ∙ get_or-cells_in cells k r None below
    ∙ ap (λ j. get_or cells j None) back

pub get_or-map : (f : List VectorForm → Option ℤ) (forms : List (List VectorForm)) (c : ℕ) (d : Option ℤ) (e : List VectorForm) → c < length forms → get_or (map f forms) c d ≡ f (get_or forms c e)
get_or-map f [] c d e h = absurd (omega arith)
get_or-map f (x ∷ xs) zero d e h = refl
get_or-map f (x ∷ xs) (suc c) d e h = get_or-map f xs c d e (omega arith)

pub row_any : (rows : Batch) (n : ℕ) (d e : Cells) → n < length rows → get_or rows n d ≡ get_or rows n e
row_any [] n d e h = absurd (omega arith)
row_any (x ∷ xs) zero d e h = refl
row_any (x ∷ xs) (suc n) d e h = row_any xs n d e (omega arith)

row_cell_is : (table : Table) (rows : Batch) (n c : ℕ) (d : Option ℤ) → IsBatch table rows → n < length rows → c < length (canonical_forms (widths_of table) rows) → c < length table.columns → c < length (get_or rows n []) → get_or (row_of (canonical_forms (widths_of table) rows) n) c d ≡ get_or (get_or rows n []) c d
row_cell_is table rows n c d h l there inside within =
    let widths : List ℕ = widths_of table in
    let forms : List (List VectorForm) = canonical_forms widths rows in
    let column : ColumnShape = get_or table.columns c (record { name = []; column_type = SmallInt }) in
    let found : slice_get table.columns c ≡ Some column = slice_get-get_or table.columns c _ inside in
    let width : get_or widths c 0 ≡ bits_of column.column_type = get_or-widths_of table c column found in
    let has = batch_has_column table rows c column h found in
    let cells : List (Option ℤ) = column_cells rows c in
    get_or-map (λ (vectors : List VectorForm). column_cell vectors n) forms c d [] there
    ∙ ap (λ (vectors : List VectorForm). column_cell vectors n) (get_or-canonical_forms widths rows c [] (omega (arith, length-widths_of table)) ∙ ap (λ t. canonical_column t cells) width)
    ∙ canonical_column_cell (bits_of column.column_type) cells n (bits_are_lanes column.column_type) has.fit (omega (arith, length-column_cells rows c))
    ∙ get_or-column_cells rows c n l
    ∙ get_or_default (get_or rows n []) c None d within

canonical_row : (table : Table) (rows : Batch) (n : ℕ) → IsBatch table rows → n < length rows → row_of (canonical_forms (widths_of table) rows) n ≡ get_or rows n []
canonical_row table rows n h l =
    let widths : List ℕ = widths_of table in
    let forms : List (List VectorForm) = canonical_forms widths rows in
    let row : Cells = get_or rows n [] in
    let long : length (row_of forms n) ≡ length row =
    length-map forms (λ (vectors : List VectorForm). column_cell vectors n) ∙ length-canonical_forms widths rows ∙ length-widths_of table ∙ sym (row_length table.columns row (row_at table.columns rows n h.rows_fit l)) in
    same_lists (row_of forms n) row long
    (λ c d within.
    let there : c < length forms = omega (arith, length-map forms (λ (vectors : List VectorForm). column_cell vectors n)) in
    let inside : c < length table.columns = omega (arith, length-canonical_forms widths rows, length-widths_of table) in
    let c_within : c < length row = omega arith in
    row_cell_is table rows n c d h l there inside c_within)

pub canonical_rows : (table : Table) (rows : Batch) → IsBatch table rows → batch_of (length rows) (canonical_forms (widths_of table) rows) ≡ rows
canonical_rows table rows h =
    let forms : List (List VectorForm) = canonical_forms (widths_of table) rows in
    same_lists (batch_of (length rows) forms) rows (length-batch_of (length rows) forms)
    (λ n d w.
    let below : n < length rows = omega (arith, length-batch_of (length rows) forms) in
    get_or-batch_of (length rows) forms n d below ∙ canonical_row table rows n h below ∙ row_any rows n [] d below)
