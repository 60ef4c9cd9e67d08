-- The rows of a segment in lanes as wide as a table's columns fit the table.
use Rattle.std.proofs.Common.{◌≡◌, ℕ, suc, ◌/◌, ◌%◌, ◌<◌, Bool, true, false, cond, ℤ, pos, ◌≤ℤ◌, FitsSigned, List, [], ◌∷◌, map, slice_get, Option, Some, None, refl, sym, subst, ◌∙◌, arith}
use Rattle.std.specs.List.{range_with_len}
use Rattle.std.proofs.lemmas.Int.{ints}
use Rattle.std.proofs.lemmas.List.Elements.{All-get_or}
use Rattle.bit_interleave.specs.Arithmetic.{integer_width}
use Rattle.table_model.specs.Table.{Table, ColumnShape, bits_of, least_of, greatest_of, Fits, IsRow, AreRows, IsBatch}
use Rattle.table_model.specs.declared.schema.ColType.{ColType}
use Rattle.table_model.specs.declared.schema.ColType.TheVariants.{TinyInt, SmallInt, Integer, BigInt}
use Rattle.segment_core.specs.Coded.{value_in, values_of, lane_width_of}
use Rattle.segment_core.specs.CodedVector.{VectorForm, IsVector, is_null}
use Rattle.segment_core.specs.Segment.{cell_of, column_cell, row_of, batch_of, IsColumn, IsSegment, width_in, widths_in, widths_of}
use Rattle.segment_core.proofs.CodedLemmas.{value_at-values_of, length-values_of, AreInRange-values_of}
use Rattle.segment_core.proofs.CellLemmas.{width_of_vector}
use Rattle.segment_core.proofs.SegmentLemmas.{length-batch_of}

value_fits : (t : ColType) (z : ℤ) → FitsSigned (integer_width (bits_of t)) z → (least_of t ≤ℤ z) × (z ≤ℤ greatest_of t)
value_fits TinyInt z h = (omega (arith, ints), omega (arith, ints))
value_fits SmallInt z h = (omega (arith, ints), omega (arith, ints))
value_fits Integer z h = (omega (arith, ints), omega (arith, ints))
value_fits BigInt z h = (omega (arith, ints), omega (arith, ints))

-- a vector's value in a row is in the range of its lanes
in_lanes : (v : VectorForm) (n : ℕ) → IsVector v → n < 1024 → FitsSigned (integer_width (lane_width_of v.coded)) (value_in v.coded n)
in_lanes v n is below =
    subst (λ (x : ℤ). FitsSigned (integer_width (lane_width_of v.coded)) x) (value_at-values_of v.coded n below)
    (All-get_or (λ x. FitsSigned (integer_width (lane_width_of v.coded)) x) (values_of v.coded) n (pos 0) (let long = length-values_of v.coded in omega arith) (AreInRange-values_of v.coded is.form))

-- a cell that may be null
null_or : (c : ColumnShape) (null : Bool) (z : ℤ) → FitsSigned (integer_width (bits_of c.column_type)) z → Fits c (cond null None (Some z))
null_or c true z h = tt
null_or c false z h = value_fits c.column_type z h

found_fits : (c : ColumnShape) (rows k n : ℕ) (vectors : List VectorForm) (found : Option VectorForm) → slice_get vectors k ≡ found → IsColumn rows vectors → width_in vectors ≡ bits_of c.column_type → n < 1024 → Fits c (cell_of found n)
found_fits c rows k n vectors None is column width below = tt
found_fits c rows k n vectors (Some v) is column width below =
    let lanes : lane_width_of v.coded ≡ bits_of c.column_type = sym (width_of_vector rows vectors k v column is) ∙ width in
    let P : ℕ → Type 0 = λ t. FitsSigned (integer_width t) (value_in v.coded n) in
    null_or c (is_null v.nulls n) (value_in v.coded n) (subst P lanes (in_lanes v n (column.each k v is) below))

column_fits : (c : ColumnShape) (rows ordinal : ℕ) (vectors : List VectorForm) → IsColumn rows vectors → width_in vectors ≡ bits_of c.column_type → Fits c (column_cell vectors ordinal)
column_fits c rows ordinal vectors column width =
    found_fits c rows (ordinal / 1024) (ordinal % 1024) vectors (slice_get vectors (ordinal / 1024)) refl column width (omega arith)

row_fits : (columns : List ColumnShape) (rows ordinal : ℕ) (forms : List (List VectorForm)) → ((k : ℕ) (vectors : List VectorForm) → slice_get forms k ≡ Some vectors → IsColumn rows vectors)
    → widths_in forms ≡ map (λ (column : ColumnShape). bits_of column.column_type) columns → IsRow columns (row_of forms ordinal)
row_fits [] rows ordinal [] proper widths = tt
row_fits [] rows ordinal (vectors ∷ forms) proper widths = absurd cc
row_fits (c ∷ columns) rows ordinal [] proper widths = absurd cc
row_fits (c ∷ columns) rows ordinal (vectors ∷ forms) proper widths =
    let here : width_in vectors ≡ bits_of c.column_type = cc in
    let rest : widths_in forms ≡ map (λ (column : ColumnShape). bits_of column.column_type) columns = cc in
    (column_fits c rows ordinal vectors (proper 0 vectors refl) here, row_fits columns rows ordinal forms (λ k vs e. proper (suc k) vs e) rest)

rows_fit : (columns : List ColumnShape) (rows : ℕ) (forms : List (List VectorForm)) (ordinals : List ℕ) → ((k : ℕ) (vectors : List VectorForm) → slice_get forms k ≡ Some vectors → IsColumn rows vectors)
    → widths_in forms ≡ map (λ (column : ColumnShape). bits_of column.column_type) columns → AreRows columns (map (row_of forms) ordinals)
rows_fit columns rows forms [] proper widths = tt
rows_fit columns rows forms (o ∷ ordinals) proper widths = (row_fits columns rows o forms proper widths, rows_fit columns rows forms ordinals proper widths)

pub segment_fits : (table : Table) (rows : ℕ) (forms : List (List VectorForm)) → IsSegment rows forms → widths_in forms ≡ widths_of table → IsBatch table (batch_of rows forms)
unfolding batch_of
segment_fits table rows forms segment widths =
    let long = length-batch_of rows forms in
    record {
      some = (let some = segment.some in omega arith);
      limit = (let limit = segment.limit in omega arith);
      rows_fit = rows_fit table.columns rows forms (range_with_len 0 rows) segment.columns widths;
    }
