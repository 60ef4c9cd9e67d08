use Rattle.std.proofs.Common.{◌++◌, codes}
use Rattle.column_file.specs.SummaryBytes.{head}
use Rattle.column_file.proofs.CanonicalWriting.{exports_from}
use Rattle.partial_file.specs.PartialAnswerBytes.{body, body_of}
use Rattle.partial_file.proofs.Spelled.{partial_answer_spelled}
use Rattle.std.proofs.lemmas.Result.{on_ok_weaker}
use Rattle.partial_file.proofs.WrittenPartialAnswers.{partial_answer_valid}
use Rattle.partial_file.proofs.partial_answer_writing.write_partial_answer.Goals as goal

pub returns-clause-written : goal.returns-clause-written
returns-clause-written g c =
    let p = c.args.partial.now in
    rw (partial_answer_spelled p.schema (body_of p))
    (exports_from c.write_both.result (g.W.Write.contents c.args.writer.now.0) (g.W.Write.contents c.write_both.new.writer.0) c.args.writer.now.1 c.write_both.new.writer.1 ((head (codes "FLPT")).spell p.schema ++ body.spell (body_of p))
    (rw (c.schema.ensures, c.as_slice.ensures.value, c.in_ok-body.ensures.put) at c.write_both.ensures.written))

pub returns-clause-valid : goal.returns-clause-valid
returns-clause-valid g c =
    let p = c.args.partial.now in
    on_ok_weaker c.write_both.result (λ first. partial_answer_valid p.schema (body_of p) first c.in_ok-body.ensures.valid) (rw c.schema.ensures at c.write_both.ensures.valid)
