use Rattle.std.proofs.Common.{◌≡◌, ◌∙◌, ◌<◌, List, ℕ, All, map, length, sym, subst}
use Rattle.std.specs.FinMap as finite
use Rattle.table_model.specs.Table.{Table, IsTable}
use Rattle.segment_core.specs.Format.{Writes}
use Rattle.replica_store.specs.Exchange.{AreOffered}
use Rattle.replica_store.specs.Segments.{Entry as Held, IsStored}
use Rattle.column_file.specs.ContainerBytes.{entry_of, deleted_of, container}
use Rattle.column_file.specs.Files.{file_of, offer_bytes, HasBatchBytes}
use Rattle.column_file.proofs.FileLaws.{offers_are_read_again}
use Rattle.column_file.proofs.HasFiles.{on_ok}
use Rattle.column_file.proofs.RangeLists.{ranges_are}
use Rattle.column_file.proofs.offer_writing.write_offer.Goals as goal

pub write_container-requires-clause-limit : goal.write_container-requires-clause-limit
write_container-requires-clause-limit g c = c.entries.ensures.offered.limit

pub write_container-requires-clause-stored : goal.write_container-requires-clause-stored
write_container-requires-clause-stored g c =
    let P : Table → Type 0 = λ t. All (IsStored t) c.entries.result.now in
    subst P (sym c.schema.ensures) c.entries.ensures.offered.stored

pub returns-clause-written : goal.returns-clause-written
unfolding file_of
returns-clause-written g c =
    let ranges = ranges_are c.ranges-2.result.now c.args.offer.now.state.deleted c.ranges-2.ensures.maximal (c.ranges-2.ensures.rows ∙ c.tombs.ensures) in
    let text : container.spell (c.schema.result.now, (map entry_of c.entries.result.now, map deleted_of c.ranges-2.result.now)) ≡ offer_bytes c.args.offer.now =
    λ i. container.spell (c.schema.ensures i, (map entry_of (c.entries.ensures.value i), map deleted_of (sym ranges i))) in
    let P : List ℕ → Type 0 = λ bytes. Writes c.write_container.result (g.W.Write.contents c.args.writer.now.0) (g.W.Write.contents c.write_container.new.writer.0) c.args.writer.now.1 c.write_container.new.writer.1 bytes in
    subst P text c.write_container.ensures.bytes

pub returns-clause-bytes : goal.returns-clause-bytes
returns-clause-bytes g c =
    let o = c.args.offer.now in
    let table = c.schema.result.now in
    let proper : IsTable o.schema = subst (λ (t : Table). IsTable t) c.schema.ensures c.write_container.ensures.proper in
    let offered = subst (λ (es : List Held). AreOffered o.schema es) c.entries.ensures.value c.entries.ensures.offered in
    let few : length c.ranges-2.result.now < 18446744073709551616 = c.ranges-2.type_inv.0 in
    let rows = c.ranges-2.ensures.rows ∙ c.tombs.ensures in
    on_ok c.write_container.result
    (λ (again : All (HasBatchBytes table) c.entries.result.now). record {
      schema = proper;
      offered = offered;
      rows = c.entries.ensures.rows;
      batches = subst (λ (t : Table). All (HasBatchBytes t) (finite.entries o.segments)) c.schema.ensures (subst (λ (es : List Held). All (HasBatchBytes table) es) c.entries.ensures.value again);
      ranges = c.ranges-2.result.now;
      maximal = c.ranges-2.ensures.maximal;
      deleted = rows;
      count = few;
    })
    c.write_container.ensures.again

pub returns-clause-again : goal.returns-clause-again
returns-clause-again g c = on_ok c.write_container.result (offers_are_read_again c.args.offer.now) (returns-clause-bytes g c)
