use Rattle.std.proofs.Common.{◌≡◌, ◌∙◌, ◌+◌, ◌-◌, ◌++◌, ℕ, [], Err, refl, subst, arith}
use Rattle.std.specs.Io.KnownBytes.{Appends}
use Rattle.std.proofs.lemmas.Result.{err_from_is_err_and}
use Rattle.table_model.specs.declared.names.BatchName.{BatchName}
use Rattle.catalogue_join.specs.Run.{name_at, names_from, run_length}
use Rattle.segment_core.specs.Format.{Writes}
use Rattle.segment_core.proofs.Writings.{appends_none, spell_all-nil}
use Rattle.column_file.specs.SummaryBytes.{batch_name}
use Rattle.column_file.proofs.RunWriting.{name_bytes, name_done, name_fault}
use Rattle.column_file.proofs.summary_writing.write_run.Goals as goal

pub loop-number-init : goal.loop-number-init
loop-number-init g c = record {
  written = λ front.
      let none : 0 ≡ c.args.run.first.number.0 - c.args.run.first.number.0 = omega arith in
      let P : ℕ → Type 0 = λ k. Appends (g.W.Write.contents c.args.writer.now.0) (g.W.Write.contents c.args.writer.now.0) (name_bytes front (names_from c.args.run.first.origin c.args.run.first.number.0 k)) in
      subst P none (rw (spell_all-nil {A = BatchName} batch_name front) (appends_none (g.W.Write.contents c.args.writer.now.0)));
  within = omega arith;
  kept = refl;
}

pub returns-in_err-write_batch_name : goal.returns-in_err-write_batch_name
returns-in_err-write_batch_name g c = λ front.
    let p = err_from_is_err_and c.from_residual.result c.from_residual.ensures.1 in
    let origin = c.args.run.first.origin in
    let n = c.args.run.first.number.0 in
    let count = c.loop-number.number - n in
    let here : c.loop-number.number ≡ n + count = omega arith in
    let names = names_from origin n count in
    let P : ℕ → Type 0 = λ k. Writes (Err c.in_err-write_batch_name.field-0.0) (g.W.Write.contents c.loop-number.writer.0) (g.W.Write.contents c.write_batch_name.new.writer.0) c.loop-number.writer.1 c.write_batch_name.new.writer.1 ((batch_name (front ++ names)).spell (name_at origin k)) in
    name_fault front origin count n (run_length c.args.run) c.from_residual.result c.in_err-write_batch_name.field-0.0
    (g.W.Write.contents c.args.writer.now.0) (g.W.Write.contents c.loop-number.writer.0) (g.W.Write.contents c.write_batch_name.new.writer.0) c.args.writer.now.1 c.loop-number.writer.1 c.write_batch_name.new.writer.1
    (omega arith) (rw (← p.2) p.1) (c.loop-number.invariant.written front) c.loop-number.invariant.kept (subst P here (c.in_err-write_batch_name.ensures (front ++ names)))

pub loop-number-preserved : goal.loop-number-preserved
loop-number-preserved g c =
    let origin = c.args.run.first.origin in
    let n = c.args.run.first.number.0 in
    let count = c.loop-number.number - n in
    let here : c.loop-number.number ≡ n + count = omega arith in
    let next : count + 1 ≡ c.loop-number.number + 1 - n = omega arith in
    record {
      written = λ front.
          let names = names_from origin n count in
          let P : ℕ → Type 0 = λ k. Appends (g.W.Write.contents c.loop-number.writer.0) (g.W.Write.contents c.write_batch_name.new.writer.0) ((batch_name (front ++ names)).spell (name_at origin k)) in
          let Q : ℕ → Type 0 = λ k. Appends (g.W.Write.contents c.args.writer.now.0) (g.W.Write.contents c.write_batch_name.new.writer.0) (name_bytes front (names_from origin n k)) in
          subst Q next (name_done front origin count n (g.W.Write.contents c.args.writer.now.0) (g.W.Write.contents c.loop-number.writer.0) (g.W.Write.contents c.write_batch_name.new.writer.0) (c.loop-number.invariant.written front) (subst P here (c.in_ok-write_batch_name.ensures (front ++ names)).0));
      within = omega arith;
      kept = (c.in_ok-write_batch_name.ensures []).1 ∙ c.loop-number.invariant.kept;
    }

pub returns : goal.returns
returns g c = λ front.
    let all : c.loop-number.number - c.args.run.first.number.0 ≡ run_length c.args.run = omega arith in
    let P : ℕ → Type 0 = λ k. Appends (g.W.Write.contents c.args.writer.now.0) (g.W.Write.contents c.loop-number.writer.0) (name_bytes front (names_from c.args.run.first.origin c.args.run.first.number.0 k)) in
    (subst P all (c.loop-number.invariant.written front), c.loop-number.invariant.kept)

pub returns-in_ok-write_batch_name : goal.returns-in_ok-write_batch_name
returns-in_ok-write_batch_name g c = λ front.
    let origin = c.args.run.first.origin in
    let n = c.args.run.first.number.0 in
    let count = c.loop-number.number - n in
    let here : c.loop-number.number ≡ n + count = omega arith in
    let all : count + 1 ≡ run_length c.args.run = omega arith in
    let names = names_from origin n count in
    let h = c.in_ok-write_batch_name.ensures (front ++ names) in
    let P : ℕ → Type 0 = λ k. Appends (g.W.Write.contents c.loop-number.writer.0) (g.W.Write.contents c.write_batch_name.new.writer.0) ((batch_name (front ++ names)).spell (name_at origin k)) in
    let Q : ℕ → Type 0 = λ k. Appends (g.W.Write.contents c.args.writer.now.0) (g.W.Write.contents c.write_batch_name.new.writer.0) (name_bytes front (names_from origin n k)) in
    (subst Q all (name_done front origin count n (g.W.Write.contents c.args.writer.now.0) (g.W.Write.contents c.loop-number.writer.0) (g.W.Write.contents c.write_batch_name.new.writer.0) (c.loop-number.invariant.written front) (subst P here h.0)), h.1 ∙ c.loop-number.invariant.kept)
