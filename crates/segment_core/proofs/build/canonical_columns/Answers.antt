-- Each column has its type's lane width, and its cells fit.
use Rattle.std.proofs.Common.{◌≡◌, ℕ, List, Some, map, length, get_or, slice_get, ◌++◌, ◌∷◌, [], refl, sym, ◌∙◌, ap, subst, arith}
use Rattle.std.proofs.lemmas.Option.{slice_get_read}
use Rattle.std.proofs.lemmas.List.FromFn.{map-range_with_len_more}
use Rattle.std.specs.List.{range_with_len}
use Rattle.table_model.specs.Table.{ColumnShape, bits_of}
use Rattle.segment_core.specs.CodedVector.{VectorForm}
use Rattle.segment_core.specs.Segment.{column_cells, canonical_column, widths_of, HasColumn}
use Rattle.segment_core.proofs.BuildLemmas.{batch_has_column, get_or-widths_of, length-widths_of, forms_all}
use Rattle.segment_core.proofs.build.canonical_columns.Goals as goal

pub canonical_column-requires-clause-column : goal.canonical_column-requires-clause-column
canonical_column-requires-clause-column c =
    let found : slice_get c.args.schema.now.columns c.loop-column.column ≡ Some c.index-columns-column.result =
    ap (λ (columns : List ColumnShape). slice_get columns c.loop-column.column) (sym c.column_list-columns.ensures.list)
    ∙ slice_get_read c.column_list-columns.result.now (length c.column_list-columns.result.now) c.loop-column.column c.index-columns-column.result refl c.loop-column-test.true c.index-columns-column.is in
    let width : bits_of c.index-columns-column.result.column_type ≡ c.bits-lane_width.result = sym (c.bits-lane_width.ensures ∙ ap bits_of c.column_type.ensures) in
    subst (λ t. HasColumn t c.args.rows.now c.loop-column.column) width
    (batch_has_column c.args.schema.now c.args.rows.now c.loop-column.column c.index-columns-column.result c.requires found)

pub loop-column-preserved : goal.loop-column-preserved
loop-column-preserved c =
    let found : slice_get c.args.schema.now.columns c.loop-column.column ≡ Some c.index-columns-column.result =
    ap (λ (columns : List ColumnShape). slice_get columns c.loop-column.column) (sym c.column_list-columns.ensures.list)
    ∙ slice_get_read c.column_list-columns.result.now (length c.column_list-columns.result.now) c.loop-column.column c.index-columns-column.result refl c.loop-column-test.true c.index-columns-column.is in
    let width : c.bits-lane_width.result ≡ get_or (widths_of c.args.schema.now) c.loop-column.column 0 =
    c.bits-lane_width.ensures ∙ ap bits_of c.column_type.ensures ∙ sym (get_or-widths_of c.args.schema.now c.loop-column.column c.index-columns-column.result found) in
    let made : ℕ → List VectorForm = λ j. canonical_column (get_or (widths_of c.args.schema.now) j 0) (column_cells c.args.rows.now j) in
    let column : c.in_ok-canonical_column.field-0 ≡ made c.loop-column.column =
    c.in_ok-canonical_column.ensures ∙ ap (λ t. canonical_column t (column_cells c.args.rows.now c.loop-column.column)) width in
    let pushed : c.push.new.self.items ≡ c.loop-column.made.items ++ (c.in_ok-canonical_column.field-0 ∷ []) = c.in_ok-push.ensures.items in
    pushed
    ∙ ap (λ (forms : List (List VectorForm)). forms ++ (c.in_ok-canonical_column.field-0 ∷ [])) c.loop-column.invariant
    ∙ ap (λ (x : List VectorForm). map made (range_with_len 0 c.loop-column.column) ++ (x ∷ [])) column
    ∙ sym (map-range_with_len_more made 0 c.loop-column.column c.loop-column.column (omega arith))

pub returns-clause-forms : goal.returns-clause-forms
returns-clause-forms c =
    let long = ap length c.column_list-columns.ensures.list in
    let count : c.loop-column.column ≡ length (widths_of c.args.schema.now) = let t = c.loop-column-test.false in let e = c.loop-column.auto.column-end in omega (arith, length-widths_of c.args.schema.now) in
    forms_all (widths_of c.args.schema.now) c.args.rows.now c.loop-column.column c.loop-column.made.items count c.loop-column.invariant
