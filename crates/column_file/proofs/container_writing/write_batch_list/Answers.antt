use Rattle.std.proofs.Common.{◌≡◌, ◌∙◌, ◌<◌, All, List, Err, [], length, map, get_or, take, refl, sym, ap, subst, arith}
use Rattle.std.specs.Io.KnownBytes.{Appends}
use Rattle.std.proofs.lemmas.List.{take_all, length-map}
use Rattle.std.proofs.lemmas.List.Elements.{All-more}
use Rattle.std.proofs.lemmas.Result.{err_from_is_err_and}
use Rattle.segment_core.specs.Format.{Writes, spell_all}
use Rattle.segment_core.proofs.Writings.{appends_none, spell_all-nil, item_done, item_fault}
use Rattle.std.proofs.Math.ListN.{get_or-map}
use Rattle.segment_core.specs.Segment.{widths_in, widths_of}
use Rattle.table_model.specs.Table.{Table}
use Rattle.replica_store.specs.Segments.{Entry as Held, IsStored}
use Rattle.column_file.specs.ContainerBytes.{Entry, entry_of, batch}
use Rattle.column_file.specs.Files.{HasBatchBytes}
use Rattle.column_file.proofs.container_writing.write_batch_list.Goals as goal

pub loop-index-init : goal.loop-index-init
loop-index-init g c = record {
  written = λ table each. rw (spell_all-nil {A = Entry} (batch table) []) (appends_none (g.W.Write.contents c.args.writer.now.0));
  kept = λ table each. refl;
  again = λ table each k d below. absurd (omega (arith, below));
}

pub returns-in_err-write_batch-clause-bytes : goal.returns-in_err-write_batch-clause-bytes
returns-in_err-write_batch-clause-bytes g c = λ table each.
    let p = err_from_is_err_and c.from_residual.result c.from_residual.ensures.1 in
    let xs = (map entry_of c.args.entries.now) in
    let front = take c.loop-index.index xs in
    let below : c.loop-index.index < length xs = omega (arith, length-map c.args.entries.now entry_of) in
    let held : Held = c.index-entries-index.result in
    let one : Entry = entry_of held in
    let same : entry_of held ≡ get_or xs c.loop-index.index one = ap entry_of c.index-entries-index.is ∙ sym (get_or-map entry_of c.args.entries.now c.loop-index.index held) in
    let stored = each c.loop-index.index held c.loop-index-test.true in
    let widths : widths_in held.1.forms ≡ widths_of table = ap (λ (e : Held). widths_in e.1.forms) c.index-entries-index.is ∙ stored.widths in
    let P : Entry → Type 0 = λ x. Writes (Err c.in_err-write_batch.field-0.0) (g.W.Write.contents c.loop-index.writer.0) (g.W.Write.contents c.write_batch.new.writer.0) c.loop-index.writer.1 c.write_batch.new.writer.1 (((batch table) front).spell x) in
    item_fault {A = Entry} (batch table) xs c.loop-index.index one c.from_residual.result c.in_err-write_batch.field-0.0
    (g.W.Write.contents c.args.writer.now.0) (g.W.Write.contents c.loop-index.writer.0) (g.W.Write.contents c.write_batch.new.writer.0) c.args.writer.now.1 c.loop-index.writer.1 c.write_batch.new.writer.1
    below (rw (← p.2) p.1) (c.loop-index.invariant.written table each) (c.loop-index.invariant.kept table each) (subst P same (c.in_err-write_batch.ensures.bytes table front widths))

pub loop-index-preserved : goal.loop-index-preserved
loop-index-preserved g c =
    let held : Held = c.index-entries-index.result in
    let spelled = λ (table : Table) (each : All (IsStored table) c.args.entries.now).
    let stored = each c.loop-index.index held c.loop-index-test.true in
    let widths : widths_in held.1.forms ≡ widths_of table = ap (λ (e : Held). widths_in e.1.forms) c.index-entries-index.is ∙ stored.widths in
    c.in_ok-write_batch.ensures.bytes table (take c.loop-index.index (map entry_of c.args.entries.now)) widths in
    record {
      written = λ table each.
          let xs = (map entry_of c.args.entries.now) in
          let front = take c.loop-index.index xs in
          let below : c.loop-index.index < length xs = omega (arith, length-map c.args.entries.now entry_of) in
          let one : Entry = entry_of held in
          let same : entry_of held ≡ get_or xs c.loop-index.index one = ap entry_of c.index-entries-index.is ∙ sym (get_or-map entry_of c.args.entries.now c.loop-index.index held) in
          let P : Entry → Type 0 = λ x. Appends (g.W.Write.contents c.loop-index.writer.0) (g.W.Write.contents c.write_batch.new.writer.0) (((batch table) front).spell x) in
          item_done {A = Entry} (batch table) xs c.loop-index.index one (g.W.Write.contents c.args.writer.now.0) (g.W.Write.contents c.loop-index.writer.0) (g.W.Write.contents c.write_batch.new.writer.0)
          below (c.loop-index.invariant.written table each) (subst P same (spelled table each).0);
      kept = λ table each. (spelled table each).1 ∙ c.loop-index.invariant.kept table each;
      again = λ table each.
          let stored = each c.loop-index.index held c.loop-index-test.true in
          let widths : widths_in held.1.forms ≡ widths_of table = ap (λ (e : Held). widths_in e.1.forms) c.index-entries-index.is ∙ stored.widths in
          All-more (HasBatchBytes table) c.args.entries.now c.loop-index.index held c.loop-index-test.true (c.loop-index.invariant.again table each)
          (subst (HasBatchBytes table) c.index-entries-index.is
          (record {
            found = record { stored = subst (IsStored table) (sym c.index-entries-index.is) stored; rows = c.in_ok-write_batch.ensures.rows };
            columns = c.in_ok-write_batch.ensures.columns table widths;
            numbered = c.in_ok-write_batch.ensures.numbered;
          }));
    }

pub returns-clause-bytes : goal.returns-clause-bytes
returns-clause-bytes g c = λ table each.
    let xs = (map entry_of c.args.entries.now) in
    let all : take c.loop-index.index xs ≡ xs = take_all c.loop-index.index xs (omega (arith, length-map c.args.entries.now entry_of)) in
    let P : List (Entry) → Type 0 = λ ys. Appends (g.W.Write.contents c.args.writer.now.0) (g.W.Write.contents c.loop-index.writer.0) (spell_all (batch table) [] ys) in
    (subst P all (c.loop-index.invariant.written table each), c.loop-index.invariant.kept table each)

pub returns-clause-again : goal.returns-clause-again
returns-clause-again g c = λ table each.
    subst (All (HasBatchBytes table)) (take_all c.loop-index.index c.args.entries.now (omega arith)) (c.loop-index.invariant.again table each)
