-- A refused line is told.
use Rattle.replica_reports.specs.QueryLines.{line_answer}
use Rattle.replica_reports.specs.RefusedLines.{next_number}
use Rattle.replica_reports.proofs.RefusedTold.{one_refused, why_refused}
use Rattle.replica_reports.proofs.query_lines.QueryLines.answer.Goals as goal

pub returns-in-Some-clause-refused : goal.returns-in-Some-clause-refused
returns-in-Some-clause-refused g c =
    one_refused c.answer_line.result c.in-Some.refusal (g.W.Write.contents c.args.writer.now.0) (g.W.Write.contents c.answer_line.new.writer.0) c.args.writer.now.1 c.answer_line.new.writer.1 (next_number c.args.self.now.number) c.saturating_add-self.result
    c.args.self.now.line c.as_slice-line.result.now (line_answer c.args.asked.now.format c.args.asked.now.file.now.replica) (g.L.Listener.heard c.args.listener.now) (g.L.Listener.heard c.refused.new.self)
    c.answer_line.ensures.text (why_refused c.in_ok-refusal.field-0 c.in-Some.refusal c.answer_line.result c.in_ok-refusal.ensures c.in-Some.is) c.saturating_add-self.ensures c.as_slice-line.ensures.same c.as_slice-line.ensures.limit c.refused.ensures
