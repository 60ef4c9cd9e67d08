-- A query that is refused writes nothing; otherwise its partial answer's bytes are written.
use Rattle.std.proofs.lemmas.Result.{err_from_is_err_and}
use Rattle.partial_file.specs.PartialAnswerBytes.{partial_answer_bytes}
use Rattle.partial_commands.specs.StorePartialAnswer.{query_partial_answer}
use Rattle.replica_changes.proofs.CommandSteps.{export_counts}
use Rattle.partial_commands.proofs.WritingSteps.{query_refused, partial_answer_written, writing_listed, writing_kept, query_answers, query_counts}
use Rattle.partial_commands.proofs.partial_answer_writing.write_partial_answer_of_store.Goals as goal

pub returns-in_err-partial-clause-told : goal.returns-in_err-partial-clause-told
returns-in_err-partial-clause-told g c =
    let p = err_from_is_err_and c.from_residual.result c.from_residual.ensures.1 in
    let r = c.args.store.now.replica in
    rw (p.1, p.2) (query_refused c.in_err-partial.field-0.0 (g.W.Write.contents c.args.writer.now.0) (query_partial_answer c.args.sql.now r.schema r.state) c.in_err-partial.ensures.read)

pub returns-in_err-partial-clause-refused : goal.returns-in_err-partial-clause-refused
returns-in_err-partial-clause-refused g c =
    let p = err_from_is_err_and c.from_residual.result c.from_residual.ensures.1 in
    rw (p.1, p.2) (query_answers c.in_err-partial.field-0.0 c.in_err-partial.ensures.refused)

pub returns-in_err-partial-clause-fault : goal.returns-in_err-partial-clause-fault
returns-in_err-partial-clause-fault g c =
    let p = err_from_is_err_and c.from_residual.result c.from_residual.ensures.1 in
    rw (p.1, p.2) (query_counts c.in_err-partial.field-0.0 c.args.writer.now.1 c.in_err-partial.ensures.refused)

pub returns-clause-told : goal.returns-clause-told
returns-clause-told g c =
    let r = c.args.store.now.replica in
    partial_answer_written c.in_ok-partial.partial c.write_partial_answer.result (g.W.Write.contents c.args.writer.now.0) (g.W.Write.contents c.write_partial_answer.new.writer.0) c.args.writer.now.1 c.write_partial_answer.new.writer.1 (query_partial_answer c.args.sql.now r.schema r.state) c.in_ok-partial.ensures.read c.write_partial_answer.ensures.written c.write_partial_answer.ensures.valid

pub returns-clause-refused : goal.returns-clause-refused
returns-clause-refused g c = writing_listed c.write_partial_answer.result (g.W.Write.contents c.args.writer.now.0) (g.W.Write.contents c.write_partial_answer.new.writer.0) c.args.writer.now.1 c.write_partial_answer.new.writer.1 (partial_answer_bytes c.in_ok-partial.partial) c.write_partial_answer.ensures.written

pub returns-clause-kept : goal.returns-clause-kept
returns-clause-kept g c = writing_kept c.write_partial_answer.result (g.W.Write.contents c.args.writer.now.0) (g.W.Write.contents c.write_partial_answer.new.writer.0) c.args.writer.now.1 c.write_partial_answer.new.writer.1 (partial_answer_bytes c.in_ok-partial.partial) c.write_partial_answer.ensures.written

pub returns-clause-fault : goal.returns-clause-fault
returns-clause-fault g c = export_counts c.write_partial_answer.result (g.W.Write.contents c.args.writer.now.0) (g.W.Write.contents c.write_partial_answer.new.writer.0) c.args.writer.now.1 c.write_partial_answer.new.writer.1 (partial_answer_bytes c.in_ok-partial.partial) c.write_partial_answer.ensures.written
