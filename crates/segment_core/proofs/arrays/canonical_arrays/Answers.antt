-- Each column has its type's lane width, and its cells fit.
use Rattle.std.proofs.Common.{◌≡◌, ℕ, List, map, length, get_or, ◌++◌, ◌∷◌, [], refl, sym, ◌∙◌, ap, subst, arith}
use Rattle.std.proofs.lemmas.List.FromFn.{map-range_with_len_more}
use Rattle.std.specs.List.{range_with_len}
use Rattle.table_model.specs.State.{Batch}
use Rattle.table_model.specs.Table.{bits_of}
use Rattle.segment_core.specs.Arrays.{array_cells, array_rows}
use Rattle.segment_core.specs.CodedVector.{VectorForm}
use Rattle.segment_core.specs.Fill.{AreCellsInRange}
use Rattle.segment_core.specs.Segment.{column_cells, canonical_column, widths_of}
use Rattle.segment_core.proofs.ArrayLemmas.{as_many, column_in_range, column_of_arrays, length-array_rows, read_from, rows_of_column}
use Rattle.segment_core.proofs.BuildLemmas.{get_or-widths_of, length-widths_of, forms_all}
use Rattle.segment_core.proofs.arrays.canonical_arrays.Goals as goal

pub bounds-arrays-column : goal.bounds-arrays-column
bounds-arrays-column c =
    let long = ap length c.column_list-columns.ensures.list in
    let many = as_many c.args.schema.now c.args.rows c.args.arrays.now c.requires.batch in
    omega (arith, long, many, c.loop-column-test.true)

pub canonical_column-requires-clause-limit : goal.canonical_column-requires-clause-limit
canonical_column-requires-clause-limit c =
    let long = ap length c.column_list-columns.ensures.list in
    let many = as_many c.args.schema.now c.args.rows c.args.arrays.now c.requires.batch in
    let array_found = read_from c.args.arrays.now c.args.arrays.now c.loop-column.column c.index-arrays-column.result refl (omega (arith, long, many, c.loop-column-test.true)) c.index-arrays-column.is in
    let rows = rows_of_column c.args.rows c.args.arrays.now c.loop-column.column c.index-arrays-column.result c.requires.long array_found in
    omega (arith, rows, c.requires.batch.limit, length-array_rows c.args.rows c.args.arrays.now)

pub canonical_column-requires-clause-fit : goal.canonical_column-requires-clause-fit
canonical_column-requires-clause-fit c =
    let long = ap length c.column_list-columns.ensures.list in
    let many = as_many c.args.schema.now c.args.rows c.args.arrays.now c.requires.batch in
    let array_found = read_from c.args.arrays.now c.args.arrays.now c.loop-column.column c.index-arrays-column.result refl (omega (arith, long, many, c.loop-column-test.true)) c.index-arrays-column.is in
    subst (λ t. AreCellsInRange t (array_cells c.index-arrays-column.result)) (sym (c.bits-lane_width.ensures ∙ ap bits_of c.column_type.ensures))
    (column_in_range c.args.schema.now c.args.rows c.args.arrays.now c.loop-column.column c.index-columns-column.result c.index-arrays-column.result c.requires.batch c.requires.long (read_from c.args.schema.now.columns c.column_list-columns.result.now c.loop-column.column c.index-columns-column.result c.column_list-columns.ensures.list c.loop-column-test.true c.index-columns-column.is) array_found)

pub loop-column-preserved : goal.loop-column-preserved
loop-column-preserved c =
    let long = ap length c.column_list-columns.ensures.list in
    let many = as_many c.args.schema.now c.args.rows c.args.arrays.now c.requires.batch in
    let array_found = read_from c.args.arrays.now c.args.arrays.now c.loop-column.column c.index-arrays-column.result refl (omega (arith, long, many, c.loop-column-test.true)) c.index-arrays-column.is in
    let rows : Batch = array_rows c.args.rows c.args.arrays.now in
    let k : ℕ = c.loop-column.column in
    let wide : c.bits-lane_width.result ≡ get_or (widths_of c.args.schema.now) k 0 =
    sym (sym (c.bits-lane_width.ensures ∙ ap bits_of c.column_type.ensures)) ∙ sym (get_or-widths_of c.args.schema.now k c.index-columns-column.result (read_from c.args.schema.now.columns c.column_list-columns.result.now c.loop-column.column c.index-columns-column.result c.column_list-columns.ensures.list c.loop-column-test.true c.index-columns-column.is)) in
    let cells = column_of_arrays c.args.rows c.args.arrays.now k c.index-arrays-column.result array_found (rows_of_column c.args.rows c.args.arrays.now k c.index-arrays-column.result c.requires.long array_found) in
    let made : ℕ → List VectorForm = λ j. canonical_column (get_or (widths_of c.args.schema.now) j 0) (column_cells rows j) in
    let column : c.in_ok-canonical_column.field-0 ≡ made k =
    c.in_ok-canonical_column.ensures
    ∙ ap (λ t. canonical_column t (array_cells c.index-arrays-column.result)) wide
    ∙ ap (canonical_column (get_or (widths_of c.args.schema.now) k 0)) (sym cells) in
    let pushed : c.push.new.self.items ≡ c.loop-column.made.items ++ (c.in_ok-canonical_column.field-0 ∷ []) = c.in_ok-push.ensures.items in
    pushed
    ∙ ap (λ (forms : List (List VectorForm)). forms ++ (c.in_ok-canonical_column.field-0 ∷ [])) c.loop-column.invariant
    ∙ ap (λ (x : List VectorForm). map made (range_with_len 0 k) ++ (x ∷ [])) column
    ∙ sym (map-range_with_len_more made 0 k k (omega arith))

pub returns-clause-forms : goal.returns-clause-forms
returns-clause-forms c =
    let long = ap length c.column_list-columns.ensures.list in
    let count : c.loop-column.column ≡ length (widths_of c.args.schema.now) = let t = c.loop-column-test.false in let e = c.loop-column.auto.column-end in omega (arith, length-widths_of c.args.schema.now) in
    forms_all (widths_of c.args.schema.now) (array_rows c.args.rows c.args.arrays.now) c.loop-column.column c.loop-column.made.items count c.loop-column.invariant
