-- The laws of a segment's columns in bytes.
use Rattle.std.proofs.Common.{◌≡◌, ℕ, ◌+◌, ◌-◌, ◌≤◌, true, List, ◌++◌, length, slice_index_or, slice_range, take, drop, Ok, All, refl, sym, ap, ◌∙◌, arith}
use Rattle.transpose_order.specs.Place.{IsLaneWidth}
use Rattle.std.proofs.lemmas.List.{length-append, length-drop, take_at, drop_at, drop-drop, take-append-drop}
use Rattle.std.proofs.lemmas.List.Elements.{All-from_recursion}
use Rattle.table_model.specs.Table.{Table}
use Rattle.segment_core.specs.CodedVector.{VectorForm}
use Rattle.segment_core.specs.Segment.{SegmentForm, vector_count, rows_in, batch_of, widths_of, widths_in}
use Rattle.segment_core.specs.Format.{IsLawful, AreBytes}
use Rattle.segment_core.specs.VectorBytes.{vector}
use Rattle.segment_core.specs.SegmentBytes.{column, columns, batch_columns, columns_then, segment_bytes}
use Rattle.segment_core.proofs.SegmentLemmas.{length-batch_of}
use Rattle.segment_core.proofs.FormatLaws.{all_is_lawful, rest_are_bytes}
use Rattle.segment_core.proofs.VectorLaws.{vector_is_lawful}
use Rattle.segment_core.proofs.LaneWidths.{widths_are_lanes}

pub column_is_lawful : (t rows : ℕ) → IsLaneWidth t → IsLawful (column t rows)
unfolding column
column_is_lawful t rows lanes =
    all_is_lawful (vector_count rows) (λ front. vector t (rows_in rows (length front))) (λ front below. vector_is_lawful t (rows_in rows (length front)) lanes)

pub columns_are_lawful : (widths : List ℕ) (rows : ℕ) → All (λ t. IsLaneWidth t) widths → IsLawful (columns widths rows)
unfolding columns
columns_are_lawful widths rows lanes =
    all_is_lawful (length widths) (λ front. column (slice_index_or widths (length front) 0) rows) (λ front below. column_is_lawful (slice_index_or widths (length front) 0) rows (lanes (length front) 0 below))

-- ---- places in bytes

pub place_after : (bytes text rest : List ℕ) (at : ℕ) → at ≤ length bytes → drop at bytes ≡ text ++ rest
    → (drop (length bytes - length rest) bytes ≡ rest) × (slice_range bytes at (length bytes - length rest) ≡ text)
place_after bytes text rest at within parts =
    let long : length bytes - at ≡ length text + length rest = sym (length-drop at bytes) ∙ ap length parts ∙ length-append text rest in
    let next : length bytes - length rest ≡ at + length text = omega arith in
    let size : (length bytes - length rest) - at ≡ length text = omega arith in (
      ap (λ (n : ℕ). drop n bytes) next ∙ sym (drop-drop (length text) at bytes) ∙ ap (drop (length text)) parts ∙ drop_at text rest (length text) refl,
      ap (λ (n : ℕ). take n (drop at bytes)) size ∙ ap (take (length text)) parts ∙ take_at text rest (length text) refl,
    )

pub place_onward : (bytes text rest : List ℕ) (at : ℕ) → at ≤ length bytes → drop at bytes ≡ text ++ rest → at ≤ length bytes - length rest
place_onward bytes text rest at within parts =
    let long : length bytes - at ≡ length text + length rest = sym (length-drop at bytes) ∙ ap length parts ∙ length-append text rest in
    omega arith

-- ---- the columns of a table

pub batch_columns_are_lawful : (table : Table) (rows : ℕ) → IsLawful (batch_columns table rows)
batch_columns_are_lawful table rows =
    columns_are_lawful (widths_of table) rows (All-from_recursion (λ t. IsLaneWidth t) (widths_of table) (widths_are_lanes table.columns))

-- the bytes of a segment of so many rows and of a table's lane widths
pub segment_bytes_are : (s : SegmentForm) (table : Table) (rows : ℕ) → s.rows ≡ batch_of rows s.forms → widths_in s.forms ≡ widths_of table → segment_bytes s ≡ (batch_columns table rows).spell s.forms
unfolding segment_bytes
segment_bytes_are s table rows same widths =
    ap (λ (ws : List ℕ). (columns ws (length s.rows)).spell s.forms) widths ∙ ap (λ (n : ℕ). (columns (widths_of table) n).spell s.forms) (ap length same ∙ length-batch_of rows s.forms)

-- what is read at a place in bytes ends before the rest, at that place or after it
pub read_at : (table : Table) (rows : ℕ) (bytes : List ℕ) (at : ℕ) (forms : List (List VectorForm)) (rest : List ℕ) → at ≤ length bytes → AreBytes bytes
    → (batch_columns table rows).read (length bytes) (drop at bytes) ≡ Ok (forms, rest)
    → (drop (length bytes - length rest) bytes ≡ rest) × (slice_range bytes at (length bytes - length rest) ≡ (batch_columns table rows).spell forms) × (at ≤ length bytes - length rest)
read_at table rows bytes at forms rest within fit read =
    let fit_rest = rest_are_bytes bytes (take at bytes) (drop at bytes) (sym (take-append-drop at bytes)) fit in
    let taken = (batch_columns_are_lawful table rows).takes (length bytes) (drop at bytes) forms rest fit_rest read in
    let text = (batch_columns table rows).spell forms in
    let placed = place_after bytes text rest at within taken.0 in (placed.0, placed.1, place_onward bytes text rest at within taken.0)

-- what is spelled at a place in bytes is read there
pub spelled_at : (table : Table) (rows : ℕ) (bytes : List ℕ) (at : ℕ) (forms : List (List VectorForm)) (rest : List ℕ)
    → (batch_columns table rows).valid forms ≡ true → drop at bytes ≡ (batch_columns table rows).spell forms ++ rest
    → (batch_columns table rows).read (length bytes) (drop at bytes) ≡ columns_then forms rest
spelled_at table rows bytes at forms rest valid parts =
    ap ((batch_columns table rows).read (length bytes)) parts ∙ (batch_columns_are_lawful table rows).again (length bytes) forms rest valid
