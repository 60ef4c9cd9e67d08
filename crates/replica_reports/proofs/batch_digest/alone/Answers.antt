-- The offer has the batch alone, and so has its store.
use Rattle.std.specs.Prelude.{◌≡◌, List, [], ◌∷◌, Some, slice_get}
use Rattle.std.proofs.Common.{◌∙◌, ap}
use Rattle.table_model.specs.State.{Batch}
use Rattle.table_model.specs.declared.names.BatchName.{BatchName}
use Rattle.segment_core.specs.Segment.{SegmentForm}
use Rattle.replica_store.specs.Exchange.{opened}
use Rattle.replica_store.specs.Replica.{Replica, entries_of}
use Rattle.replica_store.specs.Segments.{Entry}
use Rattle.replica_store.specs.declared.store.Store.{Store}
use Rattle.replica_reports.specs.Digests.{alone}
use Rattle.replica_reports.proofs.BatchesAlone.{alone_is, if_given, offered_alone, only_memory}
use Rattle.replica_reports.proofs.batch_digest.alone.Goals as goal

copied : (e : List Entry) (name : BatchName) (copy s : SegmentForm) → e ≡ (name, copy) ∷ [] → copy ≡ s → e ≡ (name, s) ∷ []
copied e name copy s is same = is ∙ ap (λ (t : SegmentForm). (name, t) ∷ []) same

pub from_parts-requires : goal.from_parts-requires
from_parts-requires c =
    offered_alone c.args.store.now.replica.schema c.in_ok-schema.schema (c.batch.result.0, c.batch.result.1.now) c.in_ok-entries.entries.items
    (c.in_ok-schema.ensures ∙ c.schema.ensures) (copied _ c.batch.result.0 c.in_ok-copy.field-0 c.batch.result.1.now c.in_ok-entries.ensures.items c.in_ok-copy.ensures)
    (record { proper = c.batch.ensures.proper; fits = c.batch.ensures.fits; widths = c.batch.ensures.widths })

pub returns-clause-value : goal.returns-clause-value
returns-clause-value c =
    let r : Replica = c.args.store.now.replica in
    let o = c.from_parts.result in
    if_given (λ (s : Store). s.replica) (λ (one : Replica). (e : BatchName × Batch) → slice_get (entries_of r) c.args.index ≡ Some e → one ≡ alone r.schema e) c.into_store.result (opened (record { 0 = 1 }) o)
    (alone_is r c.args.index o c.batch.result.0 c.batch.result.1.now (c.from_parts.ensures.schema ∙ c.in_ok-schema.ensures ∙ c.schema.ensures) c.from_parts.ensures.batches (c.from_parts.ensures.deleted ∙ c.new.ensures) (c.from_parts.ensures.entries ∙ copied _ c.batch.result.0 c.in_ok-copy.field-0 c.batch.result.1.now c.in_ok-entries.ensures.items c.in_ok-copy.ensures) c.batch.ensures.value)
    c.into_store.ensures.value

pub returns-clause-refused : goal.returns-clause-refused
returns-clause-refused c = only_memory (λ (s : Store). s.replica) c.into_store.result c.from_parts.result c.into_store.ensures.value
