-- A segment's vector has the cells of a column at the rows of its place; past these there is no cell.
use Rattle.std.proofs.Common.{◌≡◌, ℕ, ◌+◌, ◌*◌, ◌/◌, ◌%◌, ◌<◌, ◌≤◌, min, List, [], take, drop, length, get_or, slice_get, Some, None, sym, ◌∙◌, ap, arith}
use Rattle.std.proofs.lemmas.List.{get_or_past, get_or-take, get_or-drop, length-take, length-drop}
use Rattle.std.proofs.lemmas.Option.{slice_get-get_or, get_or_from_slice_get}
use Rattle.std.specs.FinMap as finite
use Rattle.table_model.specs.State.{Cells, Batch, State}
use Rattle.table_model.specs.declared.names.BatchName.{BatchName}
use Rattle.segment_core.specs.CodedVector.{VectorForm, IsVector, vector_cell}
use Rattle.segment_core.specs.Segment.{SegmentForm, IsSegment, batch_of, rows_in}
use Rattle.segment_core.specs.Segment as segment
use Rattle.segment_core.proofs.CellLemmas.{cell_found}
use Rattle.query_eval.specs.Vector.{Vector, batch_at, vector_at, row_at, cell_at}
use Rattle.store_view.specs.View.{HasCells}

-- the batch at a place
pub batch_found : (s : State) (i : ℕ) (e : BatchName × Batch) → slice_get (finite.entries s.batches) i ≡ Some e → batch_at s i ≡ e
unfolding batch_at
batch_found s i e h = get_or_from_slice_get (finite.entries s.batches) i e _ h

-- the rows of a vector of a batch
pub rows_found : (s : State) (i k : ℕ) (e : BatchName × Batch) → slice_get (finite.entries s.batches) i ≡ Some e → (vector_at s i k).rows ≡ take 1024 (drop (1024 * k) e.1)
unfolding vector_at
rows_found s i k e h = ap (λ (b : BatchName × Batch). take 1024 (drop (1024 * k) b.1)) (batch_found s i e h)

part_length : (rows : Batch) (k : ℕ) → length (take 1024 (drop (1024 * k) rows)) ≡ rows_in (length rows) k
part_length rows k = length-take 1024 (drop (1024 * k) rows) ∙ ap (min 1024) (length-drop (1024 * k) rows)

place_div : (k n : ℕ) → n < 1024 → (1024 * k + n) / 1024 ≡ k
place_div k n h = omega arith

place_mod : (k n : ℕ) → n < 1024 → (1024 * k + n) % 1024 ≡ n
place_mod k n h = omega arith

-- a vector that stands in a column of a batch's segment has its cells
pub has_cells : (s : State) (batch k column : ℕ) (name : BatchName) (form : SegmentForm) (coded : VectorForm) →
    slice_get (finite.entries s.batches) batch ≡ Some (name, form.rows) → form.rows ≡ batch_of (length form.rows) form.forms → IsSegment (length form.rows) form.forms →
    column < length form.forms → segment.vector_at form.forms column k ≡ Some coded → IsVector coded → HasCells coded (vector_at s batch k) column
has_cells s batch k column name form coded found shown is within there proper =
    let vectors : List VectorForm = get_or form.forms column [] in
    let in_forms : slice_get form.forms column ≡ Some vectors = slice_get-get_or form.forms column [] within in
    let rows : (vector_at s batch k).rows ≡ take 1024 (drop (1024 * k) form.rows) = rows_found s batch k (name, form.rows) found in
    let cover : coded.rows ≡ rows_in (length form.rows) k = (is.columns column vectors in_forms).cover k coded there in
    record {
      form = proper;
      covers = ap length rows ∙ part_length form.rows k ∙ sym cover;
      cells = λ n h.
          let low : n < 1024 = omega arith in
          let inside : 1024 * k + n < length form.rows = omega arith in
          let row : row_at (vector_at s batch k) n ≡ get_or form.rows (1024 * k + n) [] =
          ap (λ (r : List Cells). get_or r n []) rows ∙ get_or-take 1024 (drop (1024 * k) form.rows) n [] low ∙ get_or-drop (1024 * k) form.rows n [] in
          ap (λ (r : Cells). get_or r column None) row
          ∙ ap (λ (b : Batch). get_or (get_or b (1024 * k + n) []) column None) shown
          ∙ cell_found (length form.rows) form.forms (1024 * k + n) column vectors coded inside in_forms (ap (slice_get vectors) (place_div k n low) ∙ there)
          ∙ ap (vector_cell coded) (place_mod k n low);
    }

-- past the rows of a vector there is no cell
pub cell_past : (v : Vector) (column n : ℕ) → length v.rows ≤ n → cell_at v column n ≡ None
cell_past v column n h = ap (λ (r : Cells). get_or r column None) (get_or_past v.rows n [] h)

-- how many rows a vector of a batch has
pub covered_rows : (s : State) (i k : ℕ) (e : BatchName × Batch) → slice_get (finite.entries s.batches) i ≡ Some e → length (vector_at s i k).rows ≡ rows_in (length e.1) k
covered_rows s i k e h = ap length (rows_found s i k e h) ∙ part_length e.1 k
