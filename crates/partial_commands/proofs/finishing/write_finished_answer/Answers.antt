-- The answer is written once the partial answer was read and finished; before that nothing is.
use Rattle.std.proofs.Common.{List, ℕ, inl, inr, refl, subst}
use Rattle.std.specs.Io.KnownBytes.{Appends}
use Rattle.std.proofs.lemmas.Result.{err_from_is_err_and}
use Rattle.table_model.specs.Faults.{AppendsFront, GaveMore}
use Rattle.partial_commands.proofs.PartialAnswerTurns.{partial_answer_counts, unfinished, unfinished_counts, written_counts}
use Rattle.partial_commands.proofs.finishing.write_finished_answer.Goals as goal

pub returns-in_err-partial-clause-told : goal.returns-in_err-partial-clause-told
returns-in_err-partial-clause-told g c =
    let p = err_from_is_err_and c.from_residual.result c.from_residual.ensures.1 in
    rw (p.1, p.2) (inl (c.in_err-partial.ensures.read, refl))

pub returns-in_err-partial-clause-fault : goal.returns-in_err-partial-clause-fault
returns-in_err-partial-clause-fault g c =
    let p = err_from_is_err_and c.from_residual.result c.from_residual.ensures.1 in
    rw (p.1, p.2) (partial_answer_counts (GaveMore (g.R.Read.remaining c.args.reader.now.0) (g.R.Read.remaining c.read_partial_answer.new.reader.0)) c.in_err-partial.field-0.0 c.args.reader.now.1 c.read_partial_answer.new.reader.1 c.args.writer.now.1 c.in_err-partial.ensures.reads.listed c.in_err-partial.ensures.reads.counts)

pub returns-in_err-text-clause-told : goal.returns-in_err-text-clause-told
returns-in_err-text-clause-told g c =
    let p = err_from_is_err_and c.from_residual-in_err-text.result c.from_residual-in_err-text.ensures.1 in
    rw (p.1, p.2) (unfinished c.args.format c.in_ok-partial.partial c.in_err-text.field-0.0 (g.R.Read.remaining c.args.reader.now.0) (g.W.Write.contents c.args.writer.now.0) c.in_ok-partial.ensures.read c.in_err-text.ensures.refused)

pub returns-in_err-text-clause-fault : goal.returns-in_err-text-clause-fault
returns-in_err-text-clause-fault g c =
    let p = err_from_is_err_and c.from_residual-in_err-text.result c.from_residual-in_err-text.ensures.1 in
    rw (p.1, p.2) (unfinished_counts (GaveMore (g.R.Read.remaining c.args.reader.now.0) (g.R.Read.remaining c.read_partial_answer.new.reader.0)) c.in_err-text.field-0.0 c.in_ok-partial.partial c.args.reader.now.1 c.read_partial_answer.new.reader.1 c.args.writer.now.1 c.in_ok-partial.ensures.reads.kept c.in_err-text.ensures.refused)

pub returns-in_err-write_whole-clause-told : goal.returns-in_err-write_whole-clause-told
returns-in_err-write_whole-clause-told g c =
    let p = err_from_is_err_and c.from_residual-in_err-write_whole.result c.from_residual-in_err-write_whole.ensures.1 in
    let front = subst (λ (bytes : List ℕ). AppendsFront (g.W.Write.contents c.args.writer.now.0) (g.W.Write.contents c.write_whole.new.self.0) bytes) c.as_slice.ensures.value c.in_err-write_whole.ensures.front in
    rw (p.1, p.2) (inr (c.in_err-write_whole.ensures.fault.0, (c.in_ok-partial.partial, c.in_ok-text.text.items, c.in_ok-partial.ensures.read, c.in_ok-text.ensures.text, front)))

pub returns-in_err-write_whole-clause-fault : goal.returns-in_err-write_whole-clause-fault
returns-in_err-write_whole-clause-fault g c =
    let p = err_from_is_err_and c.from_residual-in_err-write_whole.result c.from_residual-in_err-write_whole.ensures.1 in
    rw (p.1, p.2) (written_counts (GaveMore (g.R.Read.remaining c.args.reader.now.0) (g.R.Read.remaining c.read_partial_answer.new.reader.0)) c.in_err-write_whole.field-0.0 c.args.reader.now.1 c.read_partial_answer.new.reader.1 c.args.writer.now.1 c.write_whole.new.self.1 c.in_ok-partial.ensures.reads.kept c.in_err-write_whole.ensures.fault.0 c.in_err-write_whole.ensures.fault.1)

pub returns-clause-told : goal.returns-clause-told
returns-clause-told g c =
    let whole = subst (λ (bytes : List ℕ). Appends (g.W.Write.contents c.args.writer.now.0) (g.W.Write.contents c.write_whole.new.self.0) bytes) c.as_slice.ensures.value c.in_ok-write_whole.ensures.ok in
    (c.in_ok-partial.partial, c.in_ok-text.text.items, c.in_ok-partial.ensures.read, c.in_ok-text.ensures.text, whole)
