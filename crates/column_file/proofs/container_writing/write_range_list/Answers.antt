use Rattle.std.proofs.Common.{◌≡◌, ◌∙◌, ◌<◌, List, Err, [], length, map, get_or, take, refl, sym, subst, arith}
use Rattle.std.specs.Io.KnownBytes.{Appends}
use Rattle.std.proofs.lemmas.List.{take_all, length-map}
use Rattle.std.proofs.lemmas.Result.{err_from_is_err_and}
use Rattle.segment_core.specs.Format.{Writes, spell_all}
use Rattle.segment_core.proofs.Writings.{appends_none, spell_all-nil, item_done, item_fault}
use Rattle.std.proofs.Math.ListN.{get_or-map}
use Rattle.column_file.specs.ContainerBytes.{Deleted, deleted_of, range}
use Rattle.column_file.proofs.ContainerWriting.{no_range}
use Rattle.column_file.proofs.container_writing.write_range_list.Goals as goal

pub loop-index-init : goal.loop-index-init
loop-index-init g c = record {
  written = rw (spell_all-nil {A = Deleted} range []) (appends_none (g.W.Write.contents c.args.writer.now.0));
  kept = refl;
}

pub returns-in_err-write_range : goal.returns-in_err-write_range
returns-in_err-write_range g c =
    let p = err_from_is_err_and c.from_residual.result c.from_residual.ensures.1 in
    let xs = (map deleted_of c.args.deleted.now) in
    let front = take c.loop-index.index xs in
    let below : c.loop-index.index < length xs = omega (arith, length-map c.args.deleted.now deleted_of) in
    let one : Deleted = deleted_of no_range in
    let same : deleted_of (get_or c.args.deleted.now c.loop-index.index no_range) ≡ get_or xs c.loop-index.index one = sym (get_or-map deleted_of c.args.deleted.now c.loop-index.index no_range) in
    let P : Deleted → Type 0 = λ x. Writes (Err c.in_err-write_range.field-0.0) (g.W.Write.contents c.loop-index.writer.0) (g.W.Write.contents c.write_range.new.writer.0) c.loop-index.writer.1 c.write_range.new.writer.1 ((range front).spell x) in
    item_fault {A = Deleted} range xs c.loop-index.index one c.from_residual.result c.in_err-write_range.field-0.0
    (g.W.Write.contents c.args.writer.now.0) (g.W.Write.contents c.loop-index.writer.0) (g.W.Write.contents c.write_range.new.writer.0) c.args.writer.now.1 c.loop-index.writer.1 c.write_range.new.writer.1
    below (rw (← p.2) p.1) c.loop-index.invariant.written c.loop-index.invariant.kept (subst P same (c.in_err-write_range.ensures front))

pub loop-index-preserved : goal.loop-index-preserved
loop-index-preserved g c =
    let xs = (map deleted_of c.args.deleted.now) in
    let front = take c.loop-index.index xs in
    let below : c.loop-index.index < length xs = omega (arith, length-map c.args.deleted.now deleted_of) in
    let one : Deleted = deleted_of no_range in
    let same : deleted_of (get_or c.args.deleted.now c.loop-index.index no_range) ≡ get_or xs c.loop-index.index one = sym (get_or-map deleted_of c.args.deleted.now c.loop-index.index no_range) in
    let h = c.in_ok-write_range.ensures front in
    let P : Deleted → Type 0 = λ x. Appends (g.W.Write.contents c.loop-index.writer.0) (g.W.Write.contents c.write_range.new.writer.0) ((range front).spell x) in
    record {
      written = item_done {A = Deleted} range xs c.loop-index.index one (g.W.Write.contents c.args.writer.now.0) (g.W.Write.contents c.loop-index.writer.0) (g.W.Write.contents c.write_range.new.writer.0)
          below c.loop-index.invariant.written (subst P same h.0);
      kept = h.1 ∙ c.loop-index.invariant.kept;
    }

pub returns : goal.returns
returns g c =
    let xs = (map deleted_of c.args.deleted.now) in
    let all : take c.loop-index.index xs ≡ xs = take_all c.loop-index.index xs (omega (arith, length-map c.args.deleted.now deleted_of)) in
    let P : List (Deleted) → Type 0 = λ ys. Appends (g.W.Write.contents c.args.writer.now.0) (g.W.Write.contents c.loop-index.writer.0) (spell_all range [] ys) in
    (subst P all c.loop-index.invariant.written, c.loop-index.invariant.kept)
