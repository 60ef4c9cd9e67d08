-- A script ends as its rounds do, or as its last line does.
use Rattle.std.proofs.Common.{◌≡◌, ◌∙◌, ◌++◌, [], List, ℕ, ap}
use Rattle.std.proofs.lemmas.Result.{err_from_is_err_and}
use Rattle.lanes_main.specs.Script.{parts_in, text_from}
use Rattle.lanes_main.proofs.Tellings.{told_front, told_last, told_all, stopped_unread, stopped_lacking, stopped_writing}
use Rattle.lanes_main.proofs.interpreter.script_with_notes.Goals as goal

pub returns-in_err-buffer : goal.returns-in_err-buffer
returns-in_err-buffer g c =
    let p = err_from_is_err_and c.from_residual.result c.from_residual.ensures.1 in
    rw (p.1, p.2) (stopped_unread g.R.Read.remaining g.W.Write.contents c.args.reader.now c.args.writer.now)

pub returns-in_err-session : goal.returns-in_err-session
returns-in_err-session g c =
    let p = err_from_is_err_and c.from_residual-in_err-session.result c.from_residual-in_err-session.ensures.1 in
    rw (p.1, p.2) c.in_err-session.ensures.stopped

pub returns-in_err-finish : goal.returns-in_err-finish
returns-in_err-finish g c =
    let p = err_from_is_err_and c.from_residual-in_err-finish.result c.from_residual-in_err-finish.ensures.1 in
    let front = told_front (g.R.Read.remaining c.args.reader.now.0) (g.R.Read.remaining c.rounds.new.reader.0) (g.W.Write.contents c.args.writer.now.0) (g.W.Write.contents c.rounds.new.writer.0) (parts_in c.in_ok-session.session.cluster) c.in_ok-session.session.line c.in_ok-session.ensures.told.0 c.in_ok-session.ensures.told.1 in
    rw (p.1, p.2) (stopped_lacking g.R.Read.remaining g.W.Write.contents c.args.reader.now c.rounds.new.reader c.args.writer.now c.rounds.new.writer c.in_err-finish.field-0.0 c.in_err-finish.ensures.memory front c.in_ok-session.ensures.whole)

pub returns-in_err-write_whole : goal.returns-in_err-write_whole
returns-in_err-write_whole g c =
    let p = err_from_is_err_and c.from_residual-in_err-write_whole.result c.from_residual-in_err-write_whole.ensures.1 in
    let text : List ℕ = text_from (parts_in c.in_ok-session.session.cluster) c.in_ok-session.session.line [] in
    let is : c.as_slice.result.now ≡ text = c.as_slice.ensures.value ∙ c.in_ok-finish.ensures.ok ∙ ap (λ (o : List ℕ). o ++ text) c.new-last.ensures.items in
    let front = told_last (g.R.Read.remaining c.args.reader.now.0) (g.R.Read.remaining c.rounds.new.reader.0) (g.W.Write.contents c.args.writer.now.0) (g.W.Write.contents c.rounds.new.writer.0) (g.W.Write.contents c.write_whole.new.self.0) (parts_in c.in_ok-session.session.cluster) c.in_ok-session.session.line c.as_slice.result.now c.in_ok-session.ensures.told.0 c.in_ok-session.ensures.told.1
    c.in_ok-session.ensures.whole.read.end is c.in_err-write_whole.ensures.front in
    rw (p.1, p.2) (stopped_writing g.R.Read.remaining g.W.Write.contents c.args.reader.now c.rounds.new.reader c.args.writer.now c.rounds.new.writer c.write_whole.new.self c.in_err-write_whole.field-0.0 c.in_err-write_whole.ensures.fault front c.in_ok-session.ensures.whole)

pub returns : goal.returns
returns g c =
    let text : List ℕ = text_from (parts_in c.in_ok-session.session.cluster) c.in_ok-session.session.line [] in
    let is : c.as_slice.result.now ≡ text = c.as_slice.ensures.value ∙ c.in_ok-finish.ensures.ok ∙ ap (λ (o : List ℕ). o ++ text) c.new-last.ensures.items in
    let all = told_all (g.R.Read.remaining c.args.reader.now.0) (g.R.Read.remaining c.rounds.new.reader.0) (g.W.Write.contents c.args.writer.now.0) (g.W.Write.contents c.rounds.new.writer.0) (g.W.Write.contents c.write_whole.new.self.0) (parts_in c.in_ok-session.session.cluster) c.in_ok-session.session.line c.as_slice.result.now c.in_ok-session.ensures.told.0 c.in_ok-session.ensures.told.1
    c.in_ok-session.ensures.whole.read.end is c.in_ok-write_whole.ensures.ok in
    record { text = all; whole = record { read = c.in_ok-session.ensures.whole.read; kept = c.in_ok-write_whole.ensures.kept ∙ c.in_ok-session.ensures.whole.kept } }
