-- All lines are told, the last one at the end.
use Rattle.std.proofs.Common.{ℕ, refl, subst, ◌∙◌}
use Rattle.std.proofs.lemmas.Result.{err_from_is_err_and}
use Rattle.table_model.specs.Faults.{GaveMore, Failed}
use Rattle.replica_reports.proofs.LinesTold.{heard_last, heard_all, telling_failed}
use Rattle.replica_reports.proofs.RefusedTold.{hearing_all, hearing_last, some_nothing}
use Rattle.replica_reports.proofs.query_lines.answer_lines.Goals as goal

pub returns-in_err-answer-clause-front : goal.returns-in_err-answer-clause-front
returns-in_err-answer-clause-front g c =
    let p = err_from_is_err_and c.from_residual-in_err-answer.result c.from_residual-in_err-answer.ensures.1 in
    rw p.1 (heard_last c.args.format c.args.file.now.replica (g.R.Read.remaining c.args.reader.now.0) (g.R.Read.remaining c.rounds.new.reader.0) (g.W.Write.contents c.args.writer.now.0) (g.W.Write.contents c.rounds.new.writer.0) (g.W.Write.contents c.answer.new.writer.0)
    c.in_ok-lines.lines.is_whole c.in_ok-lines.lines.line c.in_ok-lines.ensures.heard.0 c.in_ok-lines.ensures.heard.1 c.in_ok-lines.ensures.ends.read.end c.in_err-answer.ensures.front)

pub returns-clause-heard : goal.returns-clause-heard
returns-clause-heard g c =
    heard_all c.args.format c.args.file.now.replica (g.R.Read.remaining c.args.reader.now.0) (g.R.Read.remaining c.rounds.new.reader.0) (g.W.Write.contents c.args.writer.now.0) (g.W.Write.contents c.rounds.new.writer.0) (g.W.Write.contents c.answer.new.writer.0)
    c.in_ok-lines.lines.is_whole c.answer.new.self.is_whole c.in_ok-lines.lines.line c.in_ok-lines.ensures.heard.0 c.in_ok-lines.ensures.heard.1 c.in_ok-lines.ensures.ends.read.end c.in_ok-answer.ensures.told c.in_ok-answer.ensures.whole

pub returns-in_err-buffer-clause-ends : goal.returns-in_err-buffer-clause-ends
returns-in_err-buffer-clause-ends g c =
    let p = err_from_is_err_and c.from_residual.result c.from_residual.ensures.1 in
    rw (p.1, p.2) (refl, refl)

pub returns-in_err-lines-clause-ends : goal.returns-in_err-lines-clause-ends
returns-in_err-lines-clause-ends g c =
    let p = err_from_is_err_and c.from_residual-in_err-lines.result c.from_residual-in_err-lines.ensures.1 in
    rw (p.1, p.2) c.in_err-lines.ensures.ends

pub returns-in_err-answer-clause-ends : goal.returns-in_err-answer-clause-ends
returns-in_err-answer-clause-ends g c =
    let p = err_from_is_err_and c.from_residual-in_err-answer.result c.from_residual-in_err-answer.ensures.1 in
    let stays = telling_failed (GaveMore (g.R.Read.remaining c.args.reader.now.0) (g.R.Read.remaining c.rounds.new.reader.0)) c.in_err-answer.field-0.0 c.args.reader.now.1 c.rounds.new.reader.1 c.rounds.new.writer.1 c.answer.new.writer.1
    c.in_ok-lines.ensures.ends.read.kept c.in_err-answer.ensures.ended c.in_err-answer.ensures.fault in
    let P : ℕ → Type 0 = λ w. Failed (GaveMore (g.R.Read.remaining c.args.reader.now.0) (g.R.Read.remaining c.rounds.new.reader.0)) c.in_err-answer.field-0.0 c.args.reader.now.1 c.rounds.new.reader.1 w c.answer.new.writer.1 in
    rw (p.1, p.2) (subst P c.in_ok-lines.ensures.ends.kept stays)

pub returns-clause-ends : goal.returns-clause-ends
returns-clause-ends g c = record { read = c.in_ok-lines.ensures.ends.read; kept = c.in_ok-answer.ensures.kept ∙ c.in_ok-lines.ensures.ends.kept }

pub returns-in_err-buffer-clause-fewer : goal.returns-in_err-buffer-clause-fewer
returns-in_err-buffer-clause-fewer g c =
    let p = err_from_is_err_and c.from_residual.result c.from_residual.ensures.1 in
    rw p.1 (some_nothing c.args.format c.args.file.now.replica (g.R.Read.remaining c.args.reader.now.0) (g.L.Listener.heard c.args.listener.now))

pub returns-in_err-answer-clause-fewer : goal.returns-in_err-answer-clause-fewer
returns-in_err-answer-clause-fewer g c =
    let p = err_from_is_err_and c.from_residual-in_err-answer.result c.from_residual-in_err-answer.ensures.1 in
    rw p.1 (hearing_last c.args.format c.args.file.now.replica (g.R.Read.remaining c.args.reader.now.0) (g.R.Read.remaining c.rounds.new.reader.0) (g.L.Listener.heard c.args.listener.now) (g.L.Listener.heard c.rounds.new.listener) (g.L.Listener.heard c.answer.new.listener)
    c.in_ok-lines.lines.number c.in_ok-lines.lines.line c.in_ok-lines.ensures.refused c.in_err-answer.ensures.quiet)

pub returns-clause-refused : goal.returns-clause-refused
returns-clause-refused g c =
    hearing_all c.args.format c.args.file.now.replica (g.R.Read.remaining c.args.reader.now.0) (g.R.Read.remaining c.rounds.new.reader.0) (g.L.Listener.heard c.args.listener.now) (g.L.Listener.heard c.rounds.new.listener) (g.L.Listener.heard c.answer.new.listener)
    c.in_ok-lines.lines.number c.in_ok-lines.lines.line c.in_ok-lines.ensures.refused c.in_ok-lines.ensures.ends.read.end c.in_ok-answer.ensures.refused
