-- One answer after another is written, up to the first query that is refused.
use Rattle.std.proofs.Common.{◌∙◌, ◌+◌, ℕ, List, [], Bor, map, drop, get_or}
use Rattle.replica_reports.specs.Asking.{answers_report, answered_in}
use Rattle.replica_reports.proofs.AskedTexts.{none_refused, so_far_at, so_far_next, so_far_stops, answer_fault}
use Rattle.replica_reports.proofs.answers.answer_all.Goals as goal

pub returns-in-Err-clause-told : goal.returns-in-Err-clause-told
returns-in-Err-clause-told g c =
    let text : Bor (List ℕ) → List ℕ = λ sql. sql.now in
    let none : Bor (List ℕ) = record { ref_ptr = (0, 0); now = [] } in
    let sqls : List (Bor (List ℕ)) = c.args.sqls.now in
    let i = c.loop-index.index in
    let r = c.args.file.now.replica in
    so_far_stops (g.W.Write.contents c.args.writer.now.0) (g.W.Write.contents c.loop-index.writer.0) (g.W.Write.contents c.answer.new.writer.0) c.loop-index.writer.1 c.answer.new.writer.1
    (answers_report c.args.format r (map text sqls)) (answers_report c.args.format r (map text (drop (i + 1) sqls))) (answered_in c.args.format r (text (get_or sqls i none))) c.in-Err.refusal
    (so_far_at (g.W.Write.contents c.args.writer.now.0) (g.W.Write.contents c.loop-index.writer.0) c.args.format r text sqls i none c.loop-index-test.true c.loop-index.invariant.so) c.in-Err.ensures.text

pub returns-in-Err-clause-first : goal.returns-in-Err-clause-first
returns-in-Err-clause-first g c = (c.loop-index-test.true, c.loop-index.invariant.answered)

pub returns-in-Err-clause-fault : goal.returns-in-Err-clause-fault
returns-in-Err-clause-fault g c =
    let none : Bor (List ℕ) = record { ref_ptr = (0, 0); now = [] } in
    answer_fault c.in-Err.refusal (g.W.Write.contents c.loop-index.writer.0) (g.W.Write.contents c.answer.new.writer.0) c.args.writer.now.1 c.loop-index.writer.1 c.answer.new.writer.1
    (answered_in c.args.format c.args.file.now.replica (get_or c.args.sqls.now c.loop-index.index none).now) c.loop-index.invariant.kept c.in-Err.ensures.text

pub loop-index-preserved : goal.loop-index-preserved
loop-index-preserved g c =
    let text : Bor (List ℕ) → List ℕ = λ sql. sql.now in
    let none : Bor (List ℕ) = record { ref_ptr = (0, 0); now = [] } in
    let sqls : List (Bor (List ℕ)) = c.args.sqls.now in
    let i = c.loop-index.index in
    let r = c.args.file.now.replica in
    record {
      so = so_far_next (g.W.Write.contents c.args.writer.now.0) (g.W.Write.contents c.loop-index.writer.0) (g.W.Write.contents c.answer.new.writer.0) c.loop-index.writer.1 c.answer.new.writer.1
          (answers_report c.args.format r (map text sqls)) (answers_report c.args.format r (map text (drop (i + 1) sqls))) (answered_in c.args.format r (text (get_or sqls i none)))
          (so_far_at (g.W.Write.contents c.args.writer.now.0) (g.W.Write.contents c.loop-index.writer.0) c.args.format r text sqls i none c.loop-index-test.true c.loop-index.invariant.so) c.in_default.ensures.text;
      answered = none_refused c.args.format r text sqls i none c.in_default.ensures.text.0 c.loop-index-test.true c.loop-index.invariant.answered c.in_default.ensures.text.1;
      kept = c.in_default.ensures.text.3 ∙ c.loop-index.invariant.kept;
    }
