use Rattle.std.proofs.Common.{◌++◌, arith}
use Rattle.std.proofs.lemmas.Result.{err_from_is_err_and}
use Rattle.segment_core.specs.Format.{number}
use Rattle.column_file.specs.SchemaBytes.{schema, version_of}
use Rattle.column_file.proofs.SummaryWriting.{head_spelled}
use Rattle.segment_core.proofs.Writings.{writes_both, writes_front}
use Rattle.segment_core.proofs.FormatLaws.{bytes_at}
use Rattle.partial_file.proofs.Written.{on_ok}
use Rattle.partial_file.proofs.WrittenPartialAnswers.{head_given}
use Rattle.partial_file.proofs.head_writing.write_head.Goals as goal

pub returns-in_err-write_whole-clause-written : goal.returns-in_err-write_whole-clause-written
returns-in_err-write_whole-clause-written g c =
    let p = err_from_is_err_and c.from_residual.result c.from_residual.ensures.1 in
    let e = c.in_err-write_whole.ensures in
    rw (head_spelled c.args.magic.now c.args.schema.now)
    (writes_front c.from_residual.result c.in_err-write_whole.field-0.0 (g.W.Write.contents c.args.writer.now.0) (g.W.Write.contents c.write_whole.new.writer.0) c.args.writer.now.1 c.write_whole.new.writer.1 c.args.magic.now (((number 2).spell (version_of c.args.schema.now)) ++ ((schema (version_of c.args.schema.now)).spell c.args.schema.now)) (rw (← p.2) p.1) e)

pub returns-in_err-write_number-clause-written : goal.returns-in_err-write_number-clause-written
returns-in_err-write_number-clause-written g c =
    let p = err_from_is_err_and c.from_residual-in_err-write_number.result c.from_residual-in_err-write_number.ensures.1 in
    let h0 = c.in_ok-write_whole.ensures in
    let e = rw c.version_of.ensures.value at c.in_err-write_number.ensures in
    rw (head_spelled c.args.magic.now c.args.schema.now)
    (writes_both c.from_residual-in_err-write_number.result (g.W.Write.contents c.args.writer.now.0) (g.W.Write.contents c.write_whole.new.writer.0) (g.W.Write.contents c.write_number.new.writer.0) c.args.writer.now.1 c.write_whole.new.writer.1 c.write_number.new.writer.1 c.args.magic.now (((number 2).spell (version_of c.args.schema.now)) ++ ((schema (version_of c.args.schema.now)).spell c.args.schema.now)) h0.0 h0.1
    (writes_front c.from_residual-in_err-write_number.result c.in_err-write_number.field-0.0 (g.W.Write.contents c.write_whole.new.writer.0) (g.W.Write.contents c.write_number.new.writer.0) c.write_whole.new.writer.1 c.write_number.new.writer.1 ((number 2).spell (version_of c.args.schema.now)) ((schema (version_of c.args.schema.now)).spell c.args.schema.now) (rw (← p.2) p.1) e))

pub returns-clause-written : goal.returns-clause-written
returns-clause-written g c =
    let h0 = c.in_ok-write_whole.ensures in
    let h1 = rw c.version_of.ensures.value at c.in_ok-write_number.ensures in
    let l = c.write_schema.ensures in
    rw (head_spelled c.args.magic.now c.args.schema.now)
    (writes_both c.write_schema.result (g.W.Write.contents c.args.writer.now.0) (g.W.Write.contents c.write_whole.new.writer.0) (g.W.Write.contents c.write_schema.new.writer.0) c.args.writer.now.1 c.write_whole.new.writer.1 c.write_schema.new.writer.1 c.args.magic.now (((number 2).spell (version_of c.args.schema.now)) ++ ((schema (version_of c.args.schema.now)).spell c.args.schema.now)) h0.0 h0.1
    (writes_both c.write_schema.result (g.W.Write.contents c.write_whole.new.writer.0) (g.W.Write.contents c.write_number.new.writer.0) (g.W.Write.contents c.write_schema.new.writer.0) c.write_whole.new.writer.1 c.write_number.new.writer.1 c.write_schema.new.writer.1 ((number 2).spell (version_of c.args.schema.now)) ((schema (version_of c.args.schema.now)).spell c.args.schema.now) h1.0 h1.1
    l))

pub returns-clause-valid : goal.returns-clause-valid
returns-clause-valid g c =
    on_ok c.write_schema.result (head_given c.args.magic.now c.args.schema.now (bytes_at c.args.magic.now (λ i. omega (arith, c.type_inv.magic i))) c.version_of.ensures.proper)
