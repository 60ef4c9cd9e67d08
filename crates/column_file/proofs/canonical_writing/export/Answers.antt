use Rattle.std.proofs.Common.{◌≡◌, ◌∙◌, ◌++◌, ◌<◌, List, ℕ, length, map, ap, sym, subst, arith}
use Rattle.std.specs.FinMap as finite
use Rattle.std.proofs.lemmas.List.{length-append}
use Rattle.replica_store.proofs.RowsIn.{len-rows_in}
use Rattle.table_model.specs.Table.{Table, IsTable}
use Rattle.segment_core.specs.Format.{Writes}
use Rattle.replica_store.specs.Segments.{Entry as Held}
use Rattle.column_file.specs.ContainerBytes.{deleted_of, container}
use Rattle.column_file.specs.Files.{canonical_as_read, canonical_file, AreNumbered}
use Rattle.column_file.proofs.RangeLists.{ranges_are}
use Rattle.column_file.proofs.FileLaws.{files_open}
use Rattle.column_file.proofs.HasFiles.{has_file, on_ok}
use Rattle.column_file.proofs.CanonicalWriting.{canonical_spelled, exports_from}
use Rattle.column_file.proofs.canonical_writing.export.Goals as goal

pub write_canonical-requires-clause-limit : goal.write_canonical-requires-clause-limit
write_canonical-requires-clause-limit g c =
    let segments = c.args.store.now.segments in
    let whole = length-append c.parts.result.0.now c.parts.result.1.now in
    omega (arith, whole, ap length c.parts.ensures.value, ap finite.len c.parts.ensures.rows, len-rows_in segments, finite.len-entries segments, c.keeps_its_limits.ensures.limit)

pub returns-clause-written : goal.returns-clause-written
returns-clause-written g c =
    let table = c.args.store.now.replica.schema in
    let state = c.args.store.now.replica.state in
    let entries : List Held = c.parts.result.0.now ++ c.parts.result.1.now in
    let ranges = ranges_are c.ranges-2.result.now state.deleted c.ranges-2.ensures.maximal (c.ranges-2.ensures.rows ∙ c.tombs.ensures) in
    let text = canonical_spelled table state c.args.store.now.segments entries c.ranges-2.result.now c.parts.ensures.rows c.parts.ensures.value ranges in
    let same : container.spell (c.schema.result.now, (map (canonical_as_read c.schema.result.now) entries, map deleted_of c.ranges-2.result.now)) ≡ canonical_file table state =
    ap (λ (t : Table). container.spell (t, (map (canonical_as_read t) entries, map deleted_of c.ranges-2.result.now))) c.schema.ensures ∙ text in
    let P : List ℕ → Type 0 = λ bytes. Writes c.write_canonical.result (g.W.Write.contents c.args.writer.now.0) (g.W.Write.contents c.write_canonical.new.writer.0) c.args.writer.now.1 c.write_canonical.new.writer.1 bytes in
    exports_from c.write_canonical.result (g.W.Write.contents c.args.writer.now.0) (g.W.Write.contents c.write_canonical.new.writer.0) c.args.writer.now.1 c.write_canonical.new.writer.1 (canonical_file table state) (subst P same c.write_canonical.ensures.bytes)

pub returns-clause-file : goal.returns-clause-file
returns-clause-file g c =
    let table = c.args.store.now.replica.schema in
    let state = c.args.store.now.replica.state in
    let entries : List Held = c.parts.result.0.now ++ c.parts.result.1.now in
    let proper : IsTable table = subst (λ (t : Table). IsTable t) c.schema.ensures c.write_canonical.ensures.proper in
    let rows = c.ranges-2.ensures.rows ∙ c.tombs.ensures in
    let few : length c.ranges-2.result.now < 18446744073709551616 = c.ranges-2.type_inv.0 in
    on_ok c.write_canonical.result
    (λ (numbered : AreNumbered entries). has_file table state c.args.store.now.segments entries c.ranges-2.result.now proper c.keeps_its_limits.ensures.within c.parts.ensures.rows (sym c.parts.ensures.value) numbered c.ranges-2.ensures.maximal rows few)
    c.write_canonical.ensures.numbered

pub returns-clause-opens : goal.returns-clause-opens
returns-clause-opens g c = on_ok c.write_canonical.result (files_open c.args.store.now.replica.schema c.args.store.now.replica.state) (returns-clause-file g c)
