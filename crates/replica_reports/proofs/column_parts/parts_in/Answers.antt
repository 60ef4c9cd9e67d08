-- One vector more is counted; at the end none is left.
use Rattle.std.proofs.Common.{◌≤◌, ◌∙◌, [], List, length, ap, arith}
use Rattle.std.specs.Prelude.{slice_index_or}
use Rattle.std.proofs.lemmas.List.{take_all}
use Rattle.segment_core.specs.CodedVector.{VectorForm}
use Rattle.replica_reports.specs.ColumnFigures.{parts_in}
use Rattle.replica_reports.proofs.VectorParts.{parts_next, most_joined, most_of, few_of, vectors_long}
use Rattle.replica_reports.proofs.column_parts.parts_in.Goals as goal

pub joined-parts-requires-clause-few : goal.joined-parts-requires-clause-few
joined-parts-requires-clause-few c = few_of c.loop-vector.vector c.loop-vector.parts c.loop-vector.invariant.few (omega (arith, c.loop-vector.invariant.within))

pub joined-parts-requires-clause-others : goal.joined-parts-requires-clause-others
joined-parts-requires-clause-others c = few_of 1 c.of.result c.of.ensures.few (omega arith)

pub loop-vector-preserved : goal.loop-vector-preserved
loop-vector-preserved c = record {
  counted = parts_next (slice_index_or c.args.segment.now.forms c.args.column []) c.loop-vector.vector c.vector.result.now c.loop-vector.parts c.of.result c.joined-parts.result c.vector.ensures c.loop-vector.invariant.counted c.of.ensures.parts c.joined-parts.ensures;
  few = most_joined c.loop-vector.vector 1 c.loop-vector.parts c.of.result c.joined-parts.result c.loop-vector.invariant.few c.of.ensures.few c.joined-parts.ensures;
  within = omega arith;
}

pub returns-clause-parts : goal.returns-clause-parts
returns-clause-parts c =
    let vs : List VectorForm = slice_index_or c.args.segment.now.forms c.args.column [] in
    let end : length vs ≤ c.loop-vector.vector = omega (arith, vectors_long c.rows.result c.args.column c.args.segment.now.forms c.rows.ensures.form c.requires, c.loop-vector-test.false, c.div_ceil-vector-end.ensures) in
    c.loop-vector.invariant.counted ∙ ap parts_in (take_all c.loop-vector.vector vs end)

pub returns-clause-few : goal.returns-clause-few
returns-clause-few c = most_of c.loop-vector.vector 64 c.loop-vector.parts c.loop-vector.invariant.few c.loop-vector.invariant.within
