use Rattle.std.proofs.Common.{◌≡◌, [], List, slice_index_or, slice_get, Some, arith}
use Rattle.std.proofs.lemmas.Option.{slice_get-get_or}
use Rattle.segment_core.specs.CodedVector.{VectorForm, canonical_of}
use Rattle.segment_core.specs.Segment.{canonical_vectors}
use Rattle.column_file.proofs.FirstOthers.{map_more, map_whole, all_canonical}
use Rattle.column_file.proofs.differing.first_other.Goals as goal

pub loop-column-preserved : goal.loop-column-preserved
loop-column-preserved c =
    let forms = c.args.segment.now.forms in
    let vs : List VectorForm = slice_index_or forms c.loop-column.column [] in
    let there : slice_get forms c.loop-column.column ≡ Some vs = slice_get-get_or forms c.loop-column.column [] (omega arith) in
    let count = (c.rows.ensures.form.columns c.loop-column.column vs there).count in
    let past = c.if-vector-vectors.false in
    let whole = map_whole canonical_of vs c.first_other_vector-vector.result (omega (arith, count, past)) c.first_other_vector-vector.ensures.front in
    map_more canonical_vectors forms c.loop-column.column vs there whole c.loop-column.invariant

pub returns : goal.returns
returns c =
    let forms = c.args.segment.now.forms in
    all_canonical c.args.segment.now c.rows.result c.rows.ensures.form c.rows.ensures.rows (map_whole canonical_vectors forms c.loop-column.column (omega arith) c.loop-column.invariant)
