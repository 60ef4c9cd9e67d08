use Rattle.std.proofs.Common.{◌≡◌, ◌∙◌, [], List, ℕ, Some, Ok, Err, length, map, All, sym, ap, subst, arith}
use Rattle.std.proofs.lemmas.Result.{err_from_is_err_and}
use Rattle.table_model.proofs.OrMemory.{or_memory}
use Rattle.table_model.specs.Table.{Table}
use Rattle.catalogue_join.specs.RowRange.{RowRange, rows_in}
use Rattle.table_model.specs.Reading.{◌>>=◌}
use Rattle.segment_core.specs.Format.{read_whole, Writes}
use Rattle.segment_core.proofs.FormatLaws.{bytes_at}
use Rattle.replica_store.specs.Segments.{Entry as Held, IsStored}
use Rattle.replica_store.specs.Exchange.{OfferForm, AreOffered}
use Rattle.column_file.specs.Comparing.{told}
use Rattle.column_file.specs.ContainerBytes.{entry_of, deleted_of, container}
use Rattle.column_file.specs.Differing.{AreJudged, matched}
use Rattle.column_file.specs.Files.{IsRangeGiven, canonical_read, offer_held}
use Rattle.column_file.proofs.Judgements.{all_judged, canonical_by, kept_by, opened_by, refused_by}
use Rattle.column_file.proofs.OfferReading.{are_offered, are_given, offer_is, offer_was_read}
use Rattle.column_file.proofs.Openings.{canonical_is, canonical_was_read, said_matched}
use Rattle.column_file.proofs.RangeLists.{ranges_are}
use Rattle.column_file.proofs.OpenedSegments.{canonical_segments}
use Rattle.column_file.proofs.opening.canonical_in.Goals as goal

pub tombs_of-requires : goal.tombs_of-requires
tombs_of-requires c =
    let fit = bytes_at c.args.bytes.now (λ i. omega (arith, c.type_inv.bytes i)) in
    let P : List RowRange → Type 0 = λ rs. All IsRangeGiven rs in
    subst P (sym c.as_slice.ensures.value) (are_given c.args.bytes.now c.in_ok-schema.schema (map entry_of c.in_ok-schema.batches.items) c.in_ok-schema.ranges.items fit c.in_ok-schema.ensures.read)

pub from_parts-requires : goal.from_parts-requires
from_parts-requires c =
    let fit = bytes_at c.args.bytes.now (λ i. omega (arith, c.type_inv.bytes i)) in
    let t = c.in_ok-schema.schema in
    let items : List Held = c.in_ok-schema.batches.items in
    let rs : List RowRange = c.in_ok-schema.ranges.items in
    let offered = are_offered c.args.bytes.now t items (map deleted_of rs) fit c.in_ok-schema.ensures.read c.in_ok-schema.ensures.found in
    let kept = all_judged c.in_ok-canonical.canonical items c.judge_batches.new.entries.items c.in_ok-canonical.ensures.judged c.if-canonical.true in
    let P : List Held → Type 0 = λ xs. AreOffered t xs in
    subst P (sym kept.0) offered

pub returns-then-canonical-clause-read : goal.returns-then-canonical-clause-read
returns-then-canonical-clause-read c =
    let fit = bytes_at c.args.bytes.now (λ i. omega (arith, c.type_inv.bytes i)) in
    let t = c.in_ok-schema.schema in
    let items : List Held = c.in_ok-schema.batches.items in
    let rs : List RowRange = c.in_ok-schema.ranges.items in
    let offered = are_offered c.args.bytes.now t items (map deleted_of rs) fit c.in_ok-schema.ensures.read c.in_ok-schema.ensures.found in
    let kept = all_judged c.in_ok-canonical.canonical items c.judge_batches.new.entries.items c.in_ok-canonical.ensures.judged c.if-canonical.true in
    let o = c.from_parts.result in
    let deleted = c.from_parts.ensures.deleted ∙ c.in_ok-tombs.ensures ∙ ap rows_in c.as_slice.ensures.value in
    let entries = c.from_parts.ensures.entries ∙ kept.0 in
    let same = offer_is o t items rs c.in_ok-schema.ensures.found offered c.from_parts.ensures.schema c.from_parts.ensures.batches deleted entries in
    let read = offer_was_read c.args.bytes.now (t, (map entry_of items, map deleted_of rs)) o c.in_ok-schema.ensures.read same in
    let P : Table → Type 0 = λ s. read_whole container c.args.bytes.now ≡ Ok (s, (map entry_of items, map deleted_of rs)) in
    let Q : Table → Type 0 = λ s. AreOffered s items in
    let ranges = ranges_are c.ranges-2.result.now o.state.deleted c.ranges-2.ensures.maximal (c.ranges-2.ensures.rows ∙ sym c.from_parts.ensures.deleted) ∙ sym (c.are_same_ranges-maximal.ensures c.if-maximal.true) ∙ c.as_slice-2.ensures.value in
    canonical_was_read c.args.bytes.now o read
    ∙ canonical_is c.args.bytes.now o items rs fit (subst P (sym c.from_parts.ensures.schema) c.in_ok-schema.ensures.read) (subst Q (sym c.from_parts.ensures.schema) offered) c.from_parts.ensures.batches entries kept.1 ranges

pub returns-then-canonical-clause-segments : goal.returns-then-canonical-clause-segments
returns-then-canonical-clause-segments c =
    let fit = bytes_at c.args.bytes.now (λ i. omega (arith, c.type_inv.bytes i)) in
    let t = c.in_ok-schema.schema in
    let items : List Held = c.in_ok-schema.batches.items in
    let rs : List RowRange = c.in_ok-schema.ranges.items in
    let offered = are_offered c.args.bytes.now t items (map deleted_of rs) fit c.in_ok-schema.ensures.read c.in_ok-schema.ensures.found in
    let kept = all_judged c.in_ok-canonical.canonical items c.judge_batches.new.entries.items c.in_ok-canonical.ensures.judged c.if-canonical.true in
    let Q : Table → Type 0 = λ s. AreOffered s items in
    canonical_segments c.from_parts.result items (subst Q (sym c.from_parts.ensures.schema) offered) c.from_parts.ensures.batches (c.from_parts.ensures.entries ∙ kept.0) kept.1

pub write_container-outcome-requires-clause-limit : goal.write_container-outcome-requires-clause-limit
write_container-outcome-requires-clause-limit c =
    let fit = bytes_at c.args.bytes.now (λ i. omega (arith, c.type_inv.bytes i)) in
    let t = c.in_ok-schema.schema in
    let items : List Held = c.in_ok-schema.batches.items in
    let rs : List RowRange = c.in_ok-schema.ranges.items in
    let offered = are_offered c.args.bytes.now t items (map deleted_of rs) fit c.in_ok-schema.ensures.read c.in_ok-schema.ensures.found in
    let limit = offered.limit in
    omega (arith, ap length c.as_slice-3.ensures.value, c.judge_batches.ensures.count, limit)

pub write_container-outcome-requires-clause-stored : goal.write_container-outcome-requires-clause-stored
write_container-outcome-requires-clause-stored c =
    let fit = bytes_at c.args.bytes.now (λ i. omega (arith, c.type_inv.bytes i)) in
    let t = c.in_ok-schema.schema in
    let items : List Held = c.in_ok-schema.batches.items in
    let rs : List RowRange = c.in_ok-schema.ranges.items in
    let offered = are_offered c.args.bytes.now t items (map deleted_of rs) fit c.in_ok-schema.ensures.read c.in_ok-schema.ensures.found in
    let P : List Held → Type 0 = λ xs. All (IsStored t) xs in
    subst P (sym c.as_slice-3.ensures.value) (c.judge_batches.ensures.stored t offered.stored)

pub returns-in_err-verdict-clause-read : goal.returns-in_err-verdict-clause-read
returns-in_err-verdict-clause-read c =
    let fit = bytes_at c.args.bytes.now (λ i. omega (arith, c.type_inv.bytes i)) in
    let t = c.in_ok-schema.schema in
    let items : List Held = c.in_ok-schema.batches.items in
    let rs : List RowRange = c.in_ok-schema.ranges.items in
    let offered = are_offered c.args.bytes.now t items (map deleted_of rs) fit c.in_ok-schema.ensures.read c.in_ok-schema.ensures.found in
    let es : List Held = c.as_slice-3.result.now in
    let ms : List RowRange = c.ranges-3.result.now in
    let IsJudged : List Held → Type 0 = λ xs. AreJudged c.in_ok-canonical.canonical items xs in
    let judged : AreJudged c.in_ok-canonical.canonical items es = subst IsJudged (sym c.as_slice-3.ensures.value) c.in_ok-canonical.ensures.judged in
    let text : List ℕ = container.spell (t, (map entry_of es, map deleted_of ms)) in
    let start : c.new-writer.result.0 ≡ (c.args.bytes.now, []) = ap (λ (w : (List ℕ × List ℕ) × ℕ). w.0) c.new-writer.ensures ∙ c.new.ensures in
    let W : List ℕ × List ℕ → Type 0 = λ w. Writes c.write_container-outcome.result (Some (told c.new-writer.result.0)) (Some (told w)) c.new-writer.result.1 c.write_container-outcome.new.writer.1 text in
    let written = subst W (sym c.into_inner.ensures) c.write_container-outcome.ensures.bytes in
    let said = said_matched c.args.bytes.now text c.new-writer.result.0 c.into_inner.result c.write_container-outcome.result (Err c.in_err-verdict.field-0.0) c.new-writer.result.1 c.write_container-outcome.new.writer.1 start written c.in_err-verdict.ensures in
    let held : OfferForm = offer_held (t, (map entry_of items, map deleted_of rs)) in
    let rows = c.ranges-3.ensures.rows ∙ c.in_ok-tombs.ensures ∙ ap rows_in c.as_slice.ensures.value in
    let read : canonical_read c.args.bytes.now ≡ (matched c.args.bytes.now text >>= λ (done : Unit {0}). Ok held) = canonical_by c.args.bytes.now t items es rs ms c.in_ok-canonical.canonical fit c.in_ok-schema.ensures.read c.in_ok-schema.ensures.found offered judged c.ranges-3.ensures.maximal rows in
    let p = err_from_is_err_and c.from_residual-in_err-verdict.result c.from_residual-in_err-verdict.ensures.1 in
    rw (p.1, p.2) (or_memory said (λ fault. refused_by c.args.bytes.now text held c.in_err-verdict.field-0.0 read fault))

pub from_parts-requires-2 : goal.from_parts-requires-2
from_parts-requires-2 c =
    let fit = bytes_at c.args.bytes.now (λ i. omega (arith, c.type_inv.bytes i)) in
    let t = c.in_ok-schema.schema in
    let items : List Held = c.in_ok-schema.batches.items in
    let rs : List RowRange = c.in_ok-schema.ranges.items in
    let offered = are_offered c.args.bytes.now t items (map deleted_of rs) fit c.in_ok-schema.ensures.read c.in_ok-schema.ensures.found in
    let es : List Held = c.as_slice-3.result.now in
    let ms : List RowRange = c.ranges-3.result.now in
    let text : List ℕ = container.spell (t, (map entry_of es, map deleted_of ms)) in
    let start : c.new-writer.result.0 ≡ (c.args.bytes.now, []) = ap (λ (w : (List ℕ × List ℕ) × ℕ). w.0) c.new-writer.ensures ∙ c.new.ensures in
    let W : List ℕ × List ℕ → Type 0 = λ w. Writes c.write_container-outcome.result (Some (told c.new-writer.result.0)) (Some (told w)) c.new-writer.result.1 c.write_container-outcome.new.writer.1 text in
    let written = subst W (sym c.into_inner.ensures) c.write_container-outcome.ensures.bytes in
    let said = said_matched c.args.bytes.now text c.new-writer.result.0 c.into_inner.result c.write_container-outcome.result (Ok tt) c.new-writer.result.1 c.write_container-outcome.new.writer.1 start written c.in_ok-verdict.ensures in
    let IsJudged : List Held → Type 0 = λ xs. AreJudged c.in_ok-canonical.canonical items xs in
    let judged : AreJudged c.in_ok-canonical.canonical items es = subst IsJudged (sym c.as_slice-3.ensures.value) c.in_ok-canonical.ensures.judged in
    let kept = kept_by c.args.bytes.now t items es rs ms c.in_ok-canonical.canonical fit c.in_ok-schema.ensures.read offered judged said in
    let same : c.judge_batches.new.entries.items ≡ items = sym c.as_slice-3.ensures.value ∙ kept.0 in
    let P : List Held → Type 0 = λ xs. AreOffered t xs in
    subst P (sym same) offered

pub returns-clause-read : goal.returns-clause-read
returns-clause-read c =
    let fit = bytes_at c.args.bytes.now (λ i. omega (arith, c.type_inv.bytes i)) in
    let t = c.in_ok-schema.schema in
    let items : List Held = c.in_ok-schema.batches.items in
    let rs : List RowRange = c.in_ok-schema.ranges.items in
    let offered = are_offered c.args.bytes.now t items (map deleted_of rs) fit c.in_ok-schema.ensures.read c.in_ok-schema.ensures.found in
    let es : List Held = c.as_slice-3.result.now in
    let ms : List RowRange = c.ranges-3.result.now in
    let IsJudged : List Held → Type 0 = λ xs. AreJudged c.in_ok-canonical.canonical items xs in
    let judged : AreJudged c.in_ok-canonical.canonical items es = subst IsJudged (sym c.as_slice-3.ensures.value) c.in_ok-canonical.ensures.judged in
    let text : List ℕ = container.spell (t, (map entry_of es, map deleted_of ms)) in
    let start : c.new-writer.result.0 ≡ (c.args.bytes.now, []) = ap (λ (w : (List ℕ × List ℕ) × ℕ). w.0) c.new-writer.ensures ∙ c.new.ensures in
    let W : List ℕ × List ℕ → Type 0 = λ w. Writes c.write_container-outcome.result (Some (told c.new-writer.result.0)) (Some (told w)) c.new-writer.result.1 c.write_container-outcome.new.writer.1 text in
    let written = subst W (sym c.into_inner.ensures) c.write_container-outcome.ensures.bytes in
    let said = said_matched c.args.bytes.now text c.new-writer.result.0 c.into_inner.result c.write_container-outcome.result (Ok tt) c.new-writer.result.1 c.write_container-outcome.new.writer.1 start written c.in_ok-verdict.ensures in
    let held : OfferForm = offer_held (t, (map entry_of items, map deleted_of rs)) in
    let rows = c.ranges-3.ensures.rows ∙ c.in_ok-tombs.ensures ∙ ap rows_in c.as_slice.ensures.value in
    let read : canonical_read c.args.bytes.now ≡ (matched c.args.bytes.now text >>= λ (done : Unit {0}). Ok held) = canonical_by c.args.bytes.now t items es rs ms c.in_ok-canonical.canonical fit c.in_ok-schema.ensures.read c.in_ok-schema.ensures.found offered judged c.ranges-3.ensures.maximal rows in
    let kept = kept_by c.args.bytes.now t items es rs ms c.in_ok-canonical.canonical fit c.in_ok-schema.ensures.read offered judged said in
    let same : c.judge_batches.new.entries.items ≡ items = sym c.as_slice-3.ensures.value ∙ kept.0 in
    let o = c.from_parts-2.result in
    let deleted = c.from_parts-2.ensures.deleted ∙ c.in_ok-tombs.ensures ∙ ap rows_in c.as_slice.ensures.value in
    let is = offer_is o t items rs c.in_ok-schema.ensures.found offered c.from_parts-2.ensures.schema c.from_parts-2.ensures.batches deleted (c.from_parts-2.ensures.entries ∙ same) in
    opened_by c.args.bytes.now text held o read said is

pub returns-clause-segments : goal.returns-clause-segments
returns-clause-segments c =
    let fit = bytes_at c.args.bytes.now (λ i. omega (arith, c.type_inv.bytes i)) in
    let t = c.in_ok-schema.schema in
    let items : List Held = c.in_ok-schema.batches.items in
    let rs : List RowRange = c.in_ok-schema.ranges.items in
    let offered = are_offered c.args.bytes.now t items (map deleted_of rs) fit c.in_ok-schema.ensures.read c.in_ok-schema.ensures.found in
    let es : List Held = c.as_slice-3.result.now in
    let ms : List RowRange = c.ranges-3.result.now in
    let text : List ℕ = container.spell (t, (map entry_of es, map deleted_of ms)) in
    let start : c.new-writer.result.0 ≡ (c.args.bytes.now, []) = ap (λ (w : (List ℕ × List ℕ) × ℕ). w.0) c.new-writer.ensures ∙ c.new.ensures in
    let W : List ℕ × List ℕ → Type 0 = λ w. Writes c.write_container-outcome.result (Some (told c.new-writer.result.0)) (Some (told w)) c.new-writer.result.1 c.write_container-outcome.new.writer.1 text in
    let written = subst W (sym c.into_inner.ensures) c.write_container-outcome.ensures.bytes in
    let said = said_matched c.args.bytes.now text c.new-writer.result.0 c.into_inner.result c.write_container-outcome.result (Ok tt) c.new-writer.result.1 c.write_container-outcome.new.writer.1 start written c.in_ok-verdict.ensures in
    let IsJudged : List Held → Type 0 = λ xs. AreJudged c.in_ok-canonical.canonical items xs in
    let judged : AreJudged c.in_ok-canonical.canonical items es = subst IsJudged (sym c.as_slice-3.ensures.value) c.in_ok-canonical.ensures.judged in
    let kept = kept_by c.args.bytes.now t items es rs ms c.in_ok-canonical.canonical fit c.in_ok-schema.ensures.read offered judged said in
    let same : c.judge_batches.new.entries.items ≡ items = sym c.as_slice-3.ensures.value ∙ kept.0 in
    let Q : Table → Type 0 = λ s. AreOffered s items in
    canonical_segments c.from_parts-2.result items (subst Q (sym c.from_parts-2.ensures.schema) offered) c.from_parts-2.ensures.batches (c.from_parts-2.ensures.entries ∙ same) kept.1
