use Rattle.std.proofs.Common.{◌∙◌, [], List, ℕ, Err, length, refl, subst}
use Rattle.std.specs.Io.KnownBytes.{Appends}
use Rattle.std.proofs.lemmas.Result.{err_from_is_err_and}
use Rattle.segment_core.specs.CodedVector.{VectorForm}
use Rattle.segment_core.specs.Format.{Writes}
use Rattle.segment_core.specs.Segment.{rows_in, width_in}
use Rattle.segment_core.specs.VectorBytes.{vector}
use Rattle.segment_core.specs.SegmentBytes.{column}
use Rattle.segment_core.proofs.Writings.{appends_none, spell_all-nil, item_done, item_fault}
use Rattle.segment_core.proofs.SegmentWriting.{spelled_in_column}
use Rattle.segment_core.proofs.segment_writing.write_column.Goals as goal

pub loop-vector-init : goal.loop-vector-init
loop-vector-init g c = record {
  written = λ rows is. rw (spell_all-nil {A = VectorForm} (λ front. vector (width_in c.args.vectors.now) (rows_in rows (length front))) []) (appends_none (g.W.Write.contents c.args.writer.now.0));
  kept = refl;
}

pub returns-in_err-write_vector : goal.returns-in_err-write_vector
unfolding column
returns-in_err-write_vector g c = λ rows is.
    let p = err_from_is_err_and c.from_residual.result c.from_residual.ensures.1 in
    let same = spelled_in_column rows c.loop-vector.vector-index c.args.vectors.now c.vector-item.result is c.loop-vector-test.true c.vector-item.is in
    let P : List ℕ → Type 0 = λ bytes. Writes (Err c.in_err-write_vector.field-0.0) (g.W.Write.contents c.loop-vector.writer.0) (g.W.Write.contents c.write_vector.new.writer.0) c.loop-vector.writer.1 c.write_vector.new.writer.1 bytes in
    item_fault {A = VectorForm} (λ front. vector (width_in c.args.vectors.now) (rows_in rows (length front))) c.args.vectors.now c.loop-vector.vector-index c.vector-item.result c.from_residual.result c.in_err-write_vector.field-0.0
    (g.W.Write.contents c.args.writer.now.0) (g.W.Write.contents c.loop-vector.writer.0) (g.W.Write.contents c.write_vector.new.writer.0) c.args.writer.now.1 c.loop-vector.writer.1 c.write_vector.new.writer.1
    c.loop-vector-test.true (rw (← p.2) p.1) (c.loop-vector.invariant.written rows is) c.loop-vector.invariant.kept (subst P same c.in_err-write_vector.ensures)

pub loop-vector-preserved : goal.loop-vector-preserved
loop-vector-preserved g c =
    let h = c.in_ok-write_vector.ensures in
    let P : List ℕ → Type 0 = λ bytes. Appends (g.W.Write.contents c.loop-vector.writer.0) (g.W.Write.contents c.write_vector.new.writer.0) bytes in
    record {
      written = λ rows is.
          let same = spelled_in_column rows c.loop-vector.vector-index c.args.vectors.now c.vector-item.result is c.loop-vector-test.true c.vector-item.is in
          item_done {A = VectorForm} (λ front. vector (width_in c.args.vectors.now) (rows_in rows (length front))) c.args.vectors.now c.loop-vector.vector-index c.vector-item.result (g.W.Write.contents c.args.writer.now.0) (g.W.Write.contents c.loop-vector.writer.0) (g.W.Write.contents c.write_vector.new.writer.0)
          c.loop-vector-test.true (c.loop-vector.invariant.written rows is) (subst P same h.0);
      kept = h.1 ∙ c.loop-vector.invariant.kept;
    }
