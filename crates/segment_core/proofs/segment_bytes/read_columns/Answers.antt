use Rattle.std.proofs.Common.{◌≡◌, ◌++◌, ◌∷◌, [], ℕ, length, map, slice_index_or, ap, ◌∙◌, arith}
use Rattle.std.proofs.lemmas.List.{length-append, length-map, take_all}
use Rattle.std.proofs.lemmas.Result.{err_from_is_err_and}
use Rattle.table_model.proofs.OrMemory.{or_memory}
use Rattle.table_model.specs.Table.{bits_of, ColumnShape}
use Rattle.segment_core.specs.SegmentBytes.{column, columns}
use Rattle.segment_core.proofs.ReadAll.{goes_on, ends, is_done}
use Rattle.segment_core.proofs.SegmentReading.{more_columns, width_at, more_widths}
use Rattle.segment_core.proofs.segment_bytes.read_columns.Goals as goal

pub returns-in_err-vectors-clause-read : goal.returns-in_err-vectors-clause-read
unfolding columns
returns-in_err-vectors-clause-read c =
    let p = err_from_is_err_and c.from_residual-in_err-vectors.result c.from_residual-in_err-vectors.ensures.1 in
    let widths = map (λ (shape : ColumnShape). bits_of shape.column_type) c.args.shapes.now in
    let width : c.bits-lane_width.result ≡ slice_index_or widths (length c.loop-shape.read.items) 0 =
    c.bits-lane_width.ensures ∙ ap bits_of c.column_type.ensures ∙ width_at c.args.shapes.now c.loop-shape.shape-index (length c.loop-shape.read.items) c.shape-item.result c.loop-shape-test.true c.loop-shape.invariant.count c.shape-item.is in
    let below = c.loop-shape-test.true in
    rw (p.1, p.2) (or_memory c.in_err-vectors.ensures.read (λ fault. ends (λ front. column (slice_index_or widths (length front) 0) c.args.rows) (length widths) c.loop-shape.shape-index c.loop-shape.read.items c.args.total c.loop-shape.rest.now c.in_err-vectors.field-0.0 _ (omega (arith, below, length-map c.args.shapes.now (λ (shape : ColumnShape). bits_of shape.column_type)))
    (rw (← width) fault) c.loop-shape.invariant.read))

pub loop-shape-preserved : goal.loop-shape-preserved
loop-shape-preserved c =
    let widths = map (λ (shape : ColumnShape). bits_of shape.column_type) c.args.shapes.now in
    let width : c.bits-lane_width.result ≡ slice_index_or widths (length c.loop-shape.read.items) 0 =
    c.bits-lane_width.ensures ∙ ap bits_of c.column_type.ensures ∙ width_at c.args.shapes.now c.loop-shape.shape-index (length c.loop-shape.read.items) c.shape-item.result c.loop-shape-test.true c.loop-shape.invariant.count c.shape-item.is in
    let items : c.push.new.self.items ≡ c.loop-shape.read.items ++ c.in_ok-vectors.vectors ∷ [] = c.in_ok-push.ensures.items in
    record {
      read = rw items (goes_on (λ front. column (slice_index_or widths (length front) 0) c.args.rows) (length widths) c.loop-shape.shape-index c.loop-shape.read.items c.args.total c.loop-shape.rest.now c.in_ok-vectors.vectors c.in_ok-vectors.after.now _ (omega (arith, c.loop-shape-test.true, length-map c.args.shapes.now (λ (shape : ColumnShape). bits_of shape.column_type)))
          (rw (← width) c.in_ok-vectors.ensures.read) c.loop-shape.invariant.read);
      count = rw items (omega (arith, length-append c.loop-shape.read.items (c.in_ok-vectors.vectors ∷ []), c.loop-shape.invariant.count));
      columns = rw items (more_columns c.args.rows c.loop-shape.read.items c.in_ok-vectors.vectors c.loop-shape.invariant.columns c.in_ok-vectors.ensures.form);
      lanes = rw items (more_widths c.loop-shape.read.items c.in_ok-vectors.vectors widths c.loop-shape.shape-index c.bits-lane_width.result c.loop-shape.invariant.lanes c.in_ok-vectors.ensures.lanes (omega (arith, c.loop-shape-test.true, length-map c.args.shapes.now (λ (shape : ColumnShape). bits_of shape.column_type))) (width ∙ ap (λ (k : ℕ). slice_index_or widths k 0) c.loop-shape.invariant.count));
    }

pub returns-clause-read : goal.returns-clause-read
unfolding columns
returns-clause-read c =
    let widths = map (λ (shape : ColumnShape). bits_of shape.column_type) c.args.shapes.now in
    is_done (λ front. column (slice_index_or widths (length front) 0) c.args.rows) (length widths) c.loop-shape.shape-index c.loop-shape.read.items c.args.total c.loop-shape.rest.now _ (omega (arith, c.loop-shape-test.false, length-map c.args.shapes.now (λ (shape : ColumnShape). bits_of shape.column_type))) c.loop-shape.invariant.read

pub returns-clause-lanes : goal.returns-clause-lanes
returns-clause-lanes c =
    let widths = map (λ (shape : ColumnShape). bits_of shape.column_type) c.args.shapes.now in
    c.loop-shape.invariant.lanes ∙ take_all c.loop-shape.shape-index widths (omega (arith, c.loop-shape-test.false, length-map c.args.shapes.now (λ (shape : ColumnShape). bits_of shape.column_type)))
