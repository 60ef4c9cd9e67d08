-- One vector more.
use Rattle.std.proofs.Common.{◌≡◌, ◌∙◌, ◌<◌, ◌+◌, ◌*◌, ℕ, List, map, drop, ap}
use Rattle.std.specs.Prelude.{Ok, Err}
use Rattle.std.proofs.lemmas.Result.{err_from_is_err_and}
use Rattle.table_model.specs.State.{State, Cells}
use Rattle.table_model.specs.declared.names.RowName.{RowName}
use Rattle.query_eval.specs.Vector.{batch_at, row_at, vector_of}
use Rattle.query_eval.specs.declared.filter.kept_rows.KeptVector.{KeptVector}
use Rattle.live_columns.specs.Chosen.{kept_in, picked, rows_in}
use Rattle.replica_reports.specs.DumpRooms.{room_cells}
use Rattle.replica_reports.specs.Dumps.{cells_at, in_columns}
use Rattle.replica_reports.proofs.DumpLines.{decoded, front_more, front_of, front_rest, rows_are, rows_both, rows_end, vector_rows}
use Rattle.replica_reports.proofs.dumping.RowWriter.vectors.Goals as goal

pub returns-in_err-vector-clause-text : goal.returns-in_err-vector-clause-text
returns-in_err-vector-clause-text g c =
    let s = (g.C.Columns.seen c.args.columns.now).state in
    let places : List ℕ = c.args.places.now in
    let vectors : List KeptVector = c.args.vectors.now in
    let i : ℕ = c.loop-kept.kept-index in
    let kept : KeptVector = c.kept-item.result in
    let inv = c.loop-kept.invariant in
    let e = c.in_err-vector.field-0.0 in
    let p = err_from_is_err_and c.from_residual.result c.from_residual.ensures.1 in
    let named : c.name-batch.result ≡ (batch_at s kept.id.batch).0 = c.name-batch.ensures ∙ ap (λ (x : State). (batch_at x kept.id.batch).0) (c.read_rooms.ensures.same.state ∙ inv.state) in
    let cells : (n : ℕ) → n < 1024 → room_cells c.read_rooms.new.rooms n ≡ cells_at places (row_at (vector_of s kept.id) n) =
    λ n l. c.read_rooms.ensures.cells n l ∙ ap (λ (x : State). cells_at places (row_at (vector_of x kept.id) n)) inv.state in
    let here : List (RowName × Cells) = map (in_columns places) (kept_in s kept) in
    rw (p.1, p.2) (rows_end c.args.self.now.has_names e (g.W.Write.contents c.args.writer.now.0) (g.W.Write.contents c.vector.new.writer.0) c.args.writer.now.1 c.vector.new.writer.1
    (front_of s places vectors (i + 1)) (map (in_columns places) (rows_in s (drop (i + 1) vectors))) (map (in_columns places) (rows_in s vectors)) (front_rest s places vectors (i + 1))
    (rows_both c.args.self.now.has_names c.loop-kept.self.has_names tt (Err e) (g.W.Write.contents c.args.writer.now.0) (g.W.Write.contents c.loop-kept.writer.0) (g.W.Write.contents c.vector.new.writer.0) c.args.writer.now.1 c.loop-kept.writer.1 c.vector.new.writer.1
    (front_of s places vectors i) here (front_of s places vectors (i + 1)) inv.names (front_more s places vectors i kept c.loop-kept-test.true c.kept-item.is) inv.so
    (rows_are c.loop-kept.self.has_names (Err e) (g.W.Write.contents c.loop-kept.writer.0) (g.W.Write.contents c.vector.new.writer.0) c.loop-kept.writer.1 c.vector.new.writer.1 (picked kept.rows (decoded c.name-batch.result (1024 * kept.id.vector) c.read_rooms.new.rooms)) here
    (vector_rows s kept places c.read_rooms.new.rooms c.name-batch.result named cells) c.in_err-vector.ensures.text)))

pub loop-kept-preserved : goal.loop-kept-preserved
loop-kept-preserved g c =
    let s = (g.C.Columns.seen c.args.columns.now).state in
    let places : List ℕ = c.args.places.now in
    let vectors : List KeptVector = c.args.vectors.now in
    let i : ℕ = c.loop-kept.kept-index in
    let kept : KeptVector = c.kept-item.result in
    let inv = c.loop-kept.invariant in
    let named : c.name-batch.result ≡ (batch_at s kept.id.batch).0 = c.name-batch.ensures ∙ ap (λ (x : State). (batch_at x kept.id.batch).0) (c.read_rooms.ensures.same.state ∙ inv.state) in
    let cells : (n : ℕ) → n < 1024 → room_cells c.read_rooms.new.rooms n ≡ cells_at places (row_at (vector_of s kept.id) n) =
    λ n l. c.read_rooms.ensures.cells n l ∙ ap (λ (x : State). cells_at places (row_at (vector_of x kept.id) n)) inv.state in
    let here : List (RowName × Cells) = map (in_columns places) (kept_in s kept) in
    record {
      so = rows_both c.args.self.now.has_names c.loop-kept.self.has_names tt (Ok tt) (g.W.Write.contents c.args.writer.now.0) (g.W.Write.contents c.loop-kept.writer.0) (g.W.Write.contents c.vector.new.writer.0) c.args.writer.now.1 c.loop-kept.writer.1 c.vector.new.writer.1
          (front_of s places vectors i) here (front_of s places vectors (i + 1)) inv.names (front_more s places vectors i kept c.loop-kept-test.true c.kept-item.is) inv.so
          (rows_are c.loop-kept.self.has_names (Ok tt) (g.W.Write.contents c.loop-kept.writer.0) (g.W.Write.contents c.vector.new.writer.0) c.loop-kept.writer.1 c.vector.new.writer.1 (picked kept.rows (decoded c.name-batch.result (1024 * kept.id.vector) c.read_rooms.new.rooms)) here
          (vector_rows s kept places c.read_rooms.new.rooms c.name-batch.result named cells) c.in_ok-vector.ensures.text);
      names = c.vector.ensures.names ∙ inv.names;
      table = c.read_rooms.ensures.same.table ∙ inv.table;
      state = c.read_rooms.ensures.same.state ∙ inv.state;
    }
