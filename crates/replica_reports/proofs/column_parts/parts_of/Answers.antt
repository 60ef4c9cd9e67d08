-- The vectors of one batch more are counted; at the end none is left.
use Rattle.std.proofs.Common.{◌≤◌, ◌+◌, ◌*◌, ◌∙◌, List, length, ap, arith}
use Rattle.std.specs.FinMap as map
use Rattle.std.proofs.lemmas.List.{take_all}
use Rattle.replica_store.specs.Segments.{Entry}
use Rattle.replica_reports.specs.ColumnFigures.{column_vectors, parts_in}
use Rattle.replica_reports.proofs.VectorParts.{batch_next, most_joined, most_of, few_of, columns_long, entries_long}
use Rattle.replica_reports.proofs.column_parts.parts_of.Goals as goal

pub parts_in-requires : goal.parts_in-requires
parts_in-requires c = omega (arith, c.requires, columns_long c.args.store.now.replica.schema c.batch.result.1.now.forms c.batch.ensures.widths)

pub joined-parts-requires-clause-few : goal.joined-parts-requires-clause-few
joined-parts-requires-clause-few c = few_of (64 * c.loop-index.index) c.loop-index.parts c.loop-index.invariant.few (omega (arith, c.loop-index-test.true, c.batches-index-end.ensures.limit))

pub joined-parts-requires-clause-others : goal.joined-parts-requires-clause-others
joined-parts-requires-clause-others c = few_of 64 c.parts_in.result c.parts_in.ensures.few (omega arith)

pub loop-index-preserved : goal.loop-index-preserved
loop-index-preserved c =
    let most = most_joined (64 * c.loop-index.index) 64 c.loop-index.parts c.parts_in.result c.joined-parts.result c.loop-index.invariant.few c.parts_in.ensures.few c.joined-parts.ensures in
    record {
      counted = batch_next c.args.column (map.entries c.args.store.now.segments) c.loop-index.index (c.batch.result.0, c.batch.result.1.now) c.loop-index.parts c.parts_in.result c.joined-parts.result c.batch.ensures.segment c.loop-index.invariant.counted c.parts_in.ensures.parts c.joined-parts.ensures;
      few = most_of (64 * c.loop-index.index + 64) (64 * (c.loop-index.index + 1)) c.joined-parts.result most (omega arith);
    }

pub returns : goal.returns
returns c =
    let es : List Entry = map.entries c.args.store.now.segments in
    let end : length es ≤ c.loop-index.index = omega (arith, entries_long c.args.store.now.replica.state.batches c.args.store.now.segments c.shows_its_segments.ensures, c.batches-index-end.ensures.value, c.loop-index-test.false) in
    c.loop-index.invariant.counted ∙ ap (λ (left : List Entry). parts_in (column_vectors c.args.column left)) (take_all c.loop-index.index es end)
