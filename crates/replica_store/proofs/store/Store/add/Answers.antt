-- The segment has the rows.
use Rattle.std.proofs.Common.{sym, ap, subst, ◌∙◌, ◌≡◌, OnOk}
use Rattle.std.specs.FinMap as map
use Rattle.table_model.specs.Table.{Table, IsBatch}
use Rattle.segment_core.specs.Segment.{SegmentForm, canonical_segment, widths_of}
use Rattle.replica_store.specs.Replica.{with_batch}
use Rattle.replica_store.proofs.store.Store.add.Goals as goal

pub build-requires : goal.build-requires
build-requires c = subst (λ (table : Table). IsBatch table c.args.rows.now) (sym c.schema.ensures) c.requires.fit

pub put-requires-clause-fit : goal.put-requires-clause-fit
put-requires-clause-fit c =
    let segment : c.in_ok-segment.segment ≡ canonical_segment c.schema.result.now c.args.rows.now = c.in_ok-segment.ensures.value in
    subst (λ (s : SegmentForm). IsBatch c.args.self.now.replica.schema s.rows) (sym segment) c.requires.fit

pub put-requires-clause-widths : goal.put-requires-clause-widths
put-requires-clause-widths c = c.in_ok-segment.ensures.widths ∙ ap widths_of c.schema.ensures

pub returns : goal.returns
returns c =
    let segment : c.in_ok-segment.segment ≡ canonical_segment c.args.self.now.replica.schema c.args.rows.now =
    c.in_ok-segment.ensures.value ∙ ap (λ (table : Table). canonical_segment table c.args.rows.now) c.schema.ensures in
    record {
      ok = subst (λ (s : SegmentForm). OnOk c.put.result (c.put.new.self.replica ≡ with_batch c.args.self.now.replica c.args.name s.rows)) segment c.put.ensures.ok;
      segments = subst (λ (s : SegmentForm). OnOk c.put.result (c.put.new.self.segments ≡ map.insert c.args.self.now.segments c.args.name s)) segment c.put.ensures.segments;
      err = c.put.ensures.err;
    }
