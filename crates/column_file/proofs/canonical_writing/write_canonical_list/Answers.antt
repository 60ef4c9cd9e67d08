use Rattle.std.proofs.Common.{◌≡◌, ◌∙◌, ◌<◌, All, List, Err, [], length, map, get_or, take, refl, sym, ap, subst, arith}
use Rattle.std.specs.Io.KnownBytes.{Appends}
use Rattle.std.proofs.lemmas.List.{take_all, length-map}
use Rattle.std.proofs.lemmas.List.Elements.{All-more}
use Rattle.std.proofs.lemmas.Result.{err_from_is_err_and}
use Rattle.segment_core.specs.Format.{Writes, spell_all}
use Rattle.segment_core.proofs.Writings.{appends_none, spell_all-nil, item_done, item_fault}
use Rattle.std.proofs.Common.{Option, None}
use Rattle.std.proofs.Math.ListN.{get_or-map}
use Rattle.std.proofs.lemmas.List.{get_or_default}
use Rattle.segment_core.specs.Segment.{SegmentForm, canonical_again}
use Rattle.table_model.specs.Table.{Table}
use Rattle.replica_store.specs.Segments.{Entry as Held, IsStored}
use Rattle.column_file.specs.ContainerBytes.{Entry, entry_of, batch}
use Rattle.column_file.specs.Files.{chosen, canonical_as_read, IsNumbered, AreNumbered}
use Rattle.column_file.proofs.CanonicalWriting.{written_entry, written_widths}
use Rattle.column_file.proofs.canonical_writing.write_canonical_list.Goals as goal

pub loop-index-init : goal.loop-index-init
loop-index-init g c = record {
  written = λ table each. rw (spell_all-nil {A = Entry} (batch table) []) (appends_none (g.W.Write.contents c.args.writer.now.0));
  kept = λ table each. refl;
  numbered = λ k d below. absurd (omega (arith, below));
}

pub returns-in_err-write_batch-clause-bytes : goal.returns-in_err-write_batch-clause-bytes
returns-in_err-write_batch-clause-bytes g c = λ table each.
    let p = err_from_is_err_and c.from_residual.result c.from_residual.ensures.1 in
    let xs = (map (canonical_as_read table) c.args.entries.now) in
    let front = take c.loop-index.index xs in
    let below : c.loop-index.index < length xs = omega (arith, length-map c.args.entries.now (canonical_as_read table)) in
    let held : Held = c.index-entries-index.result in
    let copy : Option SegmentForm = c.index-made-index.result in
    let one : Entry = canonical_as_read table held in
    let here : IsStored table held = subst (λ (e : Held). IsStored table e) (sym c.index-entries-index.is) (each c.loop-index.index held c.loop-index-test.true) in
    let picked : chosen held.1 copy ≡ canonical_again held.1 =
    ap (λ (o : Option SegmentForm). chosen held.1 o) (c.index-made-index.is ∙ get_or_default c.args.made.now c.loop-index.index copy None (omega (arith, c.requires.long)))
    ∙ ap (λ (e : Held). chosen e.1 (get_or c.args.made.now c.loop-index.index None)) c.index-entries-index.is ∙ c.requires.each_one c.loop-index.index held c.loop-index-test.true ∙ ap (λ (e : Held). canonical_again e.1) (sym c.index-entries-index.is) in
    let segment : c.chosen-segment.result.now ≡ canonical_again held.1 = c.chosen-segment.ensures ∙ picked in
    let widths = written_widths table held c.chosen-segment.result.now here segment in
    let same : entry_of (held.0, c.chosen-segment.result.now) ≡ get_or xs c.loop-index.index one = written_entry table held c.chosen-segment.result.now here segment ∙ ap (canonical_as_read table) c.index-entries-index.is ∙ sym (get_or-map (canonical_as_read table) c.args.entries.now c.loop-index.index held) in
    let P : Entry → Type 0 = λ x. Writes (Err c.in_err-write_batch.field-0.0) (g.W.Write.contents c.loop-index.writer.0) (g.W.Write.contents c.write_batch.new.writer.0) c.loop-index.writer.1 c.write_batch.new.writer.1 (((batch table) front).spell x) in
    item_fault {A = Entry} (batch table) xs c.loop-index.index one c.from_residual.result c.in_err-write_batch.field-0.0
    (g.W.Write.contents c.args.writer.now.0) (g.W.Write.contents c.loop-index.writer.0) (g.W.Write.contents c.write_batch.new.writer.0) c.args.writer.now.1 c.loop-index.writer.1 c.write_batch.new.writer.1
    below (rw (← p.2) p.1) (c.loop-index.invariant.written table each) (c.loop-index.invariant.kept table each) (subst P same (c.in_err-write_batch.ensures.bytes table front widths))

pub loop-index-preserved : goal.loop-index-preserved
loop-index-preserved g c =
    let held : Held = c.index-entries-index.result in
    let copy : Option SegmentForm = c.index-made-index.result in
    let picked : chosen held.1 copy ≡ canonical_again held.1 =
    ap (λ (o : Option SegmentForm). chosen held.1 o) (c.index-made-index.is ∙ get_or_default c.args.made.now c.loop-index.index copy None (omega (arith, c.requires.long)))
    ∙ ap (λ (e : Held). chosen e.1 (get_or c.args.made.now c.loop-index.index None)) c.index-entries-index.is ∙ c.requires.each_one c.loop-index.index held c.loop-index-test.true ∙ ap (λ (e : Held). canonical_again e.1) (sym c.index-entries-index.is) in
    let segment : c.chosen-segment.result.now ≡ canonical_again held.1 = c.chosen-segment.ensures ∙ picked in
    let spelled = λ (table : Table) (each : All (IsStored table) c.args.entries.now).
    let here : IsStored table held = subst (λ (e : Held). IsStored table e) (sym c.index-entries-index.is) (each c.loop-index.index held c.loop-index-test.true) in
    c.in_ok-write_batch.ensures.bytes table (take c.loop-index.index (map (canonical_as_read table) c.args.entries.now)) (written_widths table held c.chosen-segment.result.now here segment) in
    record {
      written = λ table each.
          let xs = (map (canonical_as_read table) c.args.entries.now) in
          let front = take c.loop-index.index xs in
          let below : c.loop-index.index < length xs = omega (arith, length-map c.args.entries.now (canonical_as_read table)) in
          let one : Entry = canonical_as_read table held in
          let here : IsStored table held = subst (λ (e : Held). IsStored table e) (sym c.index-entries-index.is) (each c.loop-index.index held c.loop-index-test.true) in
          let same : entry_of (held.0, c.chosen-segment.result.now) ≡ get_or xs c.loop-index.index one = written_entry table held c.chosen-segment.result.now here segment ∙ ap (canonical_as_read table) c.index-entries-index.is ∙ sym (get_or-map (canonical_as_read table) c.args.entries.now c.loop-index.index held) in
          let P : Entry → Type 0 = λ x. Appends (g.W.Write.contents c.loop-index.writer.0) (g.W.Write.contents c.write_batch.new.writer.0) (((batch table) front).spell x) in
          item_done {A = Entry} (batch table) xs c.loop-index.index one (g.W.Write.contents c.args.writer.now.0) (g.W.Write.contents c.loop-index.writer.0) (g.W.Write.contents c.write_batch.new.writer.0)
          below (c.loop-index.invariant.written table each) (subst P same (spelled table each).0);
      kept = λ table each. (spelled table each).1 ∙ c.loop-index.invariant.kept table each;
      numbered = All-more (λ (e : Held). IsNumbered e.0) c.args.entries.now c.loop-index.index held c.loop-index-test.true c.loop-index.invariant.numbered
          (subst (λ (e : Held). IsNumbered e.0) c.index-entries-index.is c.in_ok-write_batch.ensures.numbered);
    }

pub returns-clause-bytes : goal.returns-clause-bytes
returns-clause-bytes g c = λ table each.
    let xs = (map (canonical_as_read table) c.args.entries.now) in
    let all : take c.loop-index.index xs ≡ xs = take_all c.loop-index.index xs (omega (arith, length-map c.args.entries.now (canonical_as_read table))) in
    let P : List (Entry) → Type 0 = λ ys. Appends (g.W.Write.contents c.args.writer.now.0) (g.W.Write.contents c.loop-index.writer.0) (spell_all (batch table) [] ys) in
    (subst P all (c.loop-index.invariant.written table each), c.loop-index.invariant.kept table each)

pub returns-clause-numbered : goal.returns-clause-numbered
returns-clause-numbered g c = subst AreNumbered (take_all c.loop-index.index c.args.entries.now (omega arith)) c.loop-index.invariant.numbered
