-- One row of the mask more, or none.
use Rattle.std.proofs.Common.{◌≡◌, ◌∙◌, ◌+◌, ℕ, Bool, true, false, List, [], ◌∷◌, ap, sym, subst, arith}
use Rattle.std.specs.Prelude.{Ok, Err}
use Rattle.std.proofs.lemmas.Result.{err_from_is_err_and}
use Rattle.table_model.specs.State.{Cells}
use Rattle.table_model.specs.declared.names.RowName.{RowName}
use Rattle.transpose_order.specs.Mask.{has}
use Rattle.live_columns.specs.Chosen.{picked}
use Rattle.live_columns.proofs.Picked.{picked_all, picked_below}
use Rattle.replica_reports.specs.Dumps.{WritesLines}
use Rattle.replica_reports.proofs.DumpLines.{decoded, one_row, picked_front, picked_one, picked_same, rows_are, rows_both, rows_end, rows_text}
use Rattle.replica_reports.proofs.dumping.RowWriter.vector.Goals as goal
use Rattle.replica_reports.proofs.dumping.RowWriter.vector.Goals.{then-get+in_ok-row, else-get}

pub returns-in_err-row-clause-text : goal.returns-in_err-row-clause-text
returns-in_err-row-clause-text g c =
    let k : ℕ = c.loop-row.row in
    let mask : List Bool = c.args.rows.now in
    let item : ℕ → RowName × Cells = decoded c.args.batch c.args.first c.args.rooms.now in
    let has_names : Bool = c.args.self.now.has_names in
    let inv = c.loop-row.invariant in
    let p = err_from_is_err_and c.from_residual.result c.from_residual.ensures.1 in
    let on : has mask k ≡ true = sym c.get.ensures ∙ c.if-get.true in
    let rest = picked_front (k + 1) mask item (omega (arith, c.loop-row-test.true)) in
    rw (p.1, p.2) (rows_end has_names c.in_err-row.field-0.0 (g.W.Write.contents c.args.writer.now.0) (g.W.Write.contents c.row.new.writer.0) c.args.writer.now.1 c.row.new.writer.1 (picked_below (k + 1) mask item) rest.0 (picked mask item) rest.1
    (rows_both has_names c.loop-row.self.has_names tt (Err c.in_err-row.field-0.0) (g.W.Write.contents c.args.writer.now.0) (g.W.Write.contents c.loop-row.writer.0) (g.W.Write.contents c.row.new.writer.0) c.args.writer.now.1 c.loop-row.writer.1 c.row.new.writer.1
    (picked_below k mask item) (item k ∷ []) (picked_below (k + 1) mask item) inv.names (picked_one k mask item on) inv.so
    (one_row c.loop-row.self.has_names (Err c.in_err-row.field-0.0) (g.W.Write.contents c.loop-row.writer.0) (g.W.Write.contents c.row.new.writer.0) c.loop-row.writer.1 c.row.new.writer.1 (item k) c.in_err-row.ensures.text)))

pub loop-row-preserved : goal.loop-row-preserved
loop-row-preserved g c =
    let k : ℕ = c.loop-row.row in
    let mask : List Bool = c.args.rows.now in
    let item : ℕ → RowName × Cells = decoded c.args.batch c.args.first c.args.rooms.now in
    let has_names : Bool = c.args.self.now.has_names in
    let inv = c.loop-row.invariant in
    elim c.if-get.branch [
      | then-get+in_ok-row w ↦
          let on : has mask k ≡ true = sym c.get.ensures ∙ w.if-get.true in
          record {
            so = subst (λ x. WritesLines (Ok tt) (g.W.Write.contents c.args.writer.now.0) (g.W.Write.contents x.0) c.args.writer.now.1 x.1 (rows_text has_names (picked_below (k + 1) mask item))) (sym w.writer-is)
                (rows_both has_names c.loop-row.self.has_names tt (Ok tt) (g.W.Write.contents c.args.writer.now.0) (g.W.Write.contents c.loop-row.writer.0) (g.W.Write.contents w.row.new.writer.0) c.args.writer.now.1 c.loop-row.writer.1 w.row.new.writer.1
                (picked_below k mask item) (item k ∷ []) (picked_below (k + 1) mask item) inv.names (picked_one k mask item on) inv.so
                (one_row c.loop-row.self.has_names (Ok tt) (g.W.Write.contents c.loop-row.writer.0) (g.W.Write.contents w.row.new.writer.0) c.loop-row.writer.1 w.row.new.writer.1 (item k) w.in_ok-row.ensures.text));
            names = ap (λ s. s.has_names) w.self-is ∙ w.row.ensures.names ∙ inv.names;
          }
      | else-get w ↦
          let off : has mask k ≡ false = sym c.get.ensures ∙ w.if-get.false in
          record {
            so = subst (λ x. WritesLines (Ok tt) (g.W.Write.contents c.args.writer.now.0) (g.W.Write.contents x.0) c.args.writer.now.1 x.1 (rows_text has_names (picked_below (k + 1) mask item))) (sym w.writer-is)
                (rows_are has_names (Ok tt) (g.W.Write.contents c.args.writer.now.0) (g.W.Write.contents c.loop-row.writer.0) c.args.writer.now.1 c.loop-row.writer.1 (picked_below k mask item) (picked_below (k + 1) mask item) (picked_same k mask item off) inv.so);
            names = ap (λ s. s.has_names) w.self-is ∙ inv.names;
          }
    ]

pub returns-clause-text : goal.returns-clause-text
returns-clause-text g c =
    let item : ℕ → RowName × Cells = decoded c.args.batch c.args.first c.args.rooms.now in
    let e : c.loop-row.row ≡ 1024 = omega (arith, c.loop-row-test.false, c.loop-row.auto.row-end) in
    rows_are c.args.self.now.has_names (Ok tt) (g.W.Write.contents c.args.writer.now.0) (g.W.Write.contents c.loop-row.writer.0) c.args.writer.now.1 c.loop-row.writer.1 (picked_below c.loop-row.row c.args.rows.now item) (picked c.args.rows.now item)
    (picked_all c.loop-row.row c.args.rows.now item e) c.loop-row.invariant.so
