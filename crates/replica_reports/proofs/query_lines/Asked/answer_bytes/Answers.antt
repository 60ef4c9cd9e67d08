-- The bytes are a text, or none.
use Rattle.replica_reports.proofs.LinesTold.{bytes_answered, bytes_refused}
use Rattle.replica_reports.proofs.query_lines.Asked.answer_bytes.Goals as goal

pub returns-in-Ok : goal.returns-in-Ok
returns-in-Ok g c = record {
  text = bytes_answered c.args.self.now.format c.args.self.now.file.now.replica c.args.bytes.now c.in-Ok.sql.now c.answer.result (g.W.Write.contents c.args.writer.now.0) (g.W.Write.contents c.answer.new.writer.0) c.args.writer.now.1 c.answer.new.writer.1
      c.in-Ok.ensures.text c.answer.ensures.text;
}

pub returns-in-Err : goal.returns-in-Err
returns-in-Err g c = record {
  text = bytes_refused c.args.self.now.format c.args.self.now.file.now.replica c.args.bytes.now c.in-Err.refusal (g.W.Write.contents c.args.writer.now.0) c.args.writer.now.1 c.in-Err.ensures.fault;
}
