use Rattle.std.proofs.Common.{◌∙◌, ℕ, Err, [], take, refl, subst}
use Rattle.std.specs.Io.KnownBytes.{Appends}
use Rattle.std.proofs.lemmas.Result.{err_from_is_err_and}
use Rattle.table_model.specs.Table.{ColumnShape}
use Rattle.segment_core.specs.Format.{Writes}
use Rattle.segment_core.proofs.Writings.{appends_none, spell_all-nil, item_done, item_fault}
use Rattle.column_file.specs.SchemaBytes.{column}
use Rattle.column_file.proofs.schema_writing.write_columns.Goals as goal

pub loop-shape-init : goal.loop-shape-init
loop-shape-init g c = record {
  written = λ version. rw (spell_all-nil {A = ColumnShape} (column version) []) (appends_none (g.W.Write.contents c.args.writer.now.0));
  kept = refl;
}

pub returns-in_err-write_column : goal.returns-in_err-write_column
returns-in_err-write_column g c = λ version.
    let p = err_from_is_err_and c.from_residual.result c.from_residual.ensures.1 in
    let front = take c.loop-shape.shape-index c.args.columns.now in
    let P : ColumnShape → Type 0 = λ x. Writes (Err c.in_err-write_column.field-0.0) (g.W.Write.contents c.loop-shape.writer.0) (g.W.Write.contents c.write_column.new.writer.0) c.loop-shape.writer.1 c.write_column.new.writer.1 ((column version front).spell x) in
    item_fault {A = ColumnShape} (column version) c.args.columns.now c.loop-shape.shape-index c.shape-item.result c.from_residual.result c.in_err-write_column.field-0.0
    (g.W.Write.contents c.args.writer.now.0) (g.W.Write.contents c.loop-shape.writer.0) (g.W.Write.contents c.write_column.new.writer.0) c.args.writer.now.1 c.loop-shape.writer.1 c.write_column.new.writer.1
    c.loop-shape-test.true (rw (← p.2) p.1) (c.loop-shape.invariant.written version) c.loop-shape.invariant.kept (subst P c.shape-item.is (c.in_err-write_column.ensures version front))

pub loop-shape-preserved : goal.loop-shape-preserved
loop-shape-preserved g c =
    let front = take c.loop-shape.shape-index c.args.columns.now in
    let h = c.in_ok-write_column.ensures in
    let P : ℕ → ColumnShape → Type 0 = λ version x. Appends (g.W.Write.contents c.loop-shape.writer.0) (g.W.Write.contents c.write_column.new.writer.0) ((column version front).spell x) in
    record {
      written = λ version. item_done {A = ColumnShape} (column version) c.args.columns.now c.loop-shape.shape-index c.shape-item.result (g.W.Write.contents c.args.writer.now.0) (g.W.Write.contents c.loop-shape.writer.0) (g.W.Write.contents c.write_column.new.writer.0)
          c.loop-shape-test.true (c.loop-shape.invariant.written version) (subst (P version) c.shape-item.is (h version front).0);
      kept = (h 1 front).1 ∙ c.loop-shape.invariant.kept;
    }
