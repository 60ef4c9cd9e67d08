use Rattle.std.proofs.Common.{◌≡◌, length, map, slice_index_or, ap, refl, ◌∙◌, arith}
use Rattle.std.proofs.lemmas.List.{length-map}
use Rattle.std.proofs.lemmas.Result.{err_from_is_err_and}
use Rattle.table_model.proofs.OrMemory.{or_memory}
use Rattle.table_model.specs.Table.{bits_of, ColumnShape}
use Rattle.segment_core.proofs.SegmentReading.{width_at}
use Rattle.column_file.specs.Passing.{over_column, over_columns}
use Rattle.column_file.proofs.Passed.{goes_on, ends, is_done}
use Rattle.column_file.proofs.passing.over_columns.Goals as goal

pub returns-in_err-rest : goal.returns-in_err-rest
unfolding over_columns
returns-in_err-rest c =
    let p = err_from_is_err_and c.from_residual.result c.from_residual.ensures.1 in
    let widths = map (λ (shape : ColumnShape). bits_of shape.column_type) c.args.shapes.now in
    let width : c.bits-lane_width.result ≡ slice_index_or widths c.loop-shape.shape-index 0 =
    c.bits-lane_width.ensures ∙ ap bits_of c.column_type.ensures ∙ width_at c.args.shapes.now c.loop-shape.shape-index c.loop-shape.shape-index c.shape-item.result c.loop-shape-test.true refl c.shape-item.is in
    rw (p.1, p.2) (or_memory c.in_err-rest.ensures (λ fault. ends (λ at. over_column (slice_index_or widths at 0) c.args.rows) (length widths) c.loop-shape.shape-index c.args.total c.loop-shape.rest.now c.in_err-rest.field-0.0 _
    (omega (arith, c.loop-shape-test.true, length-map c.args.shapes.now (λ (shape : ColumnShape). bits_of shape.column_type))) (rw (← width) fault) c.loop-shape.invariant))

pub loop-shape-preserved : goal.loop-shape-preserved
loop-shape-preserved c =
    let widths = map (λ (shape : ColumnShape). bits_of shape.column_type) c.args.shapes.now in
    let width : c.bits-lane_width.result ≡ slice_index_or widths c.loop-shape.shape-index 0 =
    c.bits-lane_width.ensures ∙ ap bits_of c.column_type.ensures ∙ width_at c.args.shapes.now c.loop-shape.shape-index c.loop-shape.shape-index c.shape-item.result c.loop-shape-test.true refl c.shape-item.is in
    goes_on (λ at. over_column (slice_index_or widths at 0) c.args.rows) (length widths) c.loop-shape.shape-index c.args.total c.loop-shape.rest.now c.in_ok-rest.rest.now _
    (omega (arith, c.loop-shape-test.true, length-map c.args.shapes.now (λ (shape : ColumnShape). bits_of shape.column_type))) (rw (← width) c.in_ok-rest.ensures) c.loop-shape.invariant

pub returns : goal.returns
unfolding over_columns
returns c =
    let widths = map (λ (shape : ColumnShape). bits_of shape.column_type) c.args.shapes.now in
    is_done (λ at. over_column (slice_index_or widths at 0) c.args.rows) (length widths) c.loop-shape.shape-index c.args.total c.loop-shape.rest.now _
    (omega (arith, c.loop-shape-test.false, length-map c.args.shapes.now (λ (shape : ColumnShape). bits_of shape.column_type))) c.loop-shape.invariant
