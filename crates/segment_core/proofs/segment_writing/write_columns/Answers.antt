use Rattle.std.proofs.Common.{◌≡◌, ◌∙◌, [], List, ℕ, Err, length, take, slice_index_or, refl, subst, arith}
use Rattle.std.proofs.lemmas.List.{take_all}
use Rattle.std.specs.Io.KnownBytes.{Appends}
use Rattle.std.proofs.lemmas.Result.{err_from_is_err_and}
use Rattle.segment_core.specs.CodedVector.{VectorForm}
use Rattle.segment_core.specs.Format.{Writes, spell_all}
use Rattle.segment_core.specs.Segment.{widths_in}
use Rattle.segment_core.specs.SegmentBytes.{column, columns}
use Rattle.segment_core.proofs.Writings.{appends_none, spell_all-nil, item_done, item_fault}
use Rattle.segment_core.proofs.SegmentWriting.{column_in, spelled_in_columns}
use Rattle.segment_core.proofs.segment_writing.write_columns.Goals as goal

pub loop-vectors-init : goal.loop-vectors-init
loop-vectors-init g c = record {
  written = λ rows is. rw (spell_all-nil {A = (List VectorForm)} (λ front. column (slice_index_or (widths_in c.args.forms.now) (length front) 0) rows) []) (appends_none (g.W.Write.contents c.args.writer.now.0));
  kept = λ rows is. refl;
}

pub returns-in_err-write_column : goal.returns-in_err-write_column
unfolding columns
returns-in_err-write_column g c = λ rows is.
    let p = err_from_is_err_and c.from_residual.result c.from_residual.ensures.1 in
    let same = spelled_in_columns rows c.loop-vectors.vectors-index c.args.forms.now c.vectors-item.result c.loop-vectors-test.true c.vectors-item.is in
    let P : List ℕ → Type 0 = λ bytes. Writes (Err c.in_err-write_column.field-0.0) (g.W.Write.contents c.loop-vectors.writer.0) (g.W.Write.contents c.write_column.new.writer.0) c.loop-vectors.writer.1 c.write_column.new.writer.1 bytes in
    item_fault {A = (List VectorForm)} (λ front. column (slice_index_or (widths_in c.args.forms.now) (length front) 0) rows) c.args.forms.now c.loop-vectors.vectors-index c.vectors-item.result c.from_residual.result c.in_err-write_column.field-0.0
    (g.W.Write.contents c.args.writer.now.0) (g.W.Write.contents c.loop-vectors.writer.0) (g.W.Write.contents c.write_column.new.writer.0) c.args.writer.now.1 c.loop-vectors.writer.1 c.write_column.new.writer.1
    c.loop-vectors-test.true (rw (← p.2) p.1) (c.loop-vectors.invariant.written rows is) (c.loop-vectors.invariant.kept rows is) (subst P same ((rw c.as_slice.ensures at c.in_err-write_column.ensures) rows (column_in rows c.loop-vectors.vectors-index c.args.forms.now c.vectors-item.result is c.loop-vectors-test.true c.vectors-item.is)))

pub loop-vectors-preserved : goal.loop-vectors-preserved
loop-vectors-preserved g c =
    let h = rw c.as_slice.ensures at c.in_ok-write_column.ensures in
    let P : List ℕ → Type 0 = λ bytes. Appends (g.W.Write.contents c.loop-vectors.writer.0) (g.W.Write.contents c.write_column.new.writer.0) bytes in
    record {
      written = λ rows is.
          let same = spelled_in_columns rows c.loop-vectors.vectors-index c.args.forms.now c.vectors-item.result c.loop-vectors-test.true c.vectors-item.is in
          let one = h rows (column_in rows c.loop-vectors.vectors-index c.args.forms.now c.vectors-item.result is c.loop-vectors-test.true c.vectors-item.is) in
          item_done {A = (List VectorForm)} (λ front. column (slice_index_or (widths_in c.args.forms.now) (length front) 0) rows) c.args.forms.now c.loop-vectors.vectors-index c.vectors-item.result (g.W.Write.contents c.args.writer.now.0) (g.W.Write.contents c.loop-vectors.writer.0) (g.W.Write.contents c.write_column.new.writer.0)
          c.loop-vectors-test.true (c.loop-vectors.invariant.written rows is) (subst P same one.0);
      kept = λ rows is. (h rows (column_in rows c.loop-vectors.vectors-index c.args.forms.now c.vectors-item.result is c.loop-vectors-test.true c.vectors-item.is)).1 ∙ (c.loop-vectors.invariant.kept rows is);
    }

pub returns : goal.returns
unfolding columns
returns g c = λ rows is.
    let whole : take c.loop-vectors.vectors-index c.args.forms.now ≡ c.args.forms.now = take_all c.loop-vectors.vectors-index c.args.forms.now (omega (arith, c.loop-vectors-test.false)) in
    let P : List (List VectorForm) → Type 0 = λ forms. Appends (g.W.Write.contents c.args.writer.now.0) (g.W.Write.contents c.loop-vectors.writer.0) (spell_all (λ front. column (slice_index_or (widths_in c.args.forms.now) (length front) 0) rows) [] forms) in
    (subst P whole (c.loop-vectors.invariant.written rows is), c.loop-vectors.invariant.kept rows is)
