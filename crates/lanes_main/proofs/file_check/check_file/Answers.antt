-- The line is written once the file was opened; before that nothing is.
use Rattle.std.proofs.lemmas.Result.{err_from_is_err_and}
use Rattle.replica_store.specs.Replica.{Replica}
use Rattle.replica_store.specs.Segments.{StoreForm}
use Rattle.replica_reports.specs.Asking.{checked_text, counts_of}
use Rattle.replica_reports.specs.Held.{held_in}
use Rattle.lanes_main.specs.FileReport.{check_report, is_refusal_of_checking}
use Rattle.lanes_main.proofs.FileReports.{reading_refused, reading_checks, reading_ends, unchecked, check_told, text_ends}
use Rattle.lanes_main.proofs.file_check.check_file.Goals as goal

pub returns-in_err-file-clause-told : goal.returns-in_err-file-clause-told
returns-in_err-file-clause-told g c =
    let p = err_from_is_err_and c.from_residual.result c.from_residual.ensures.1 in
    rw (p.1, p.2) (reading_refused {Y = Replica} (λ (file : StoreForm). file.replica) c.in_err-file.field-0.0 (g.R.Read.remaining c.args.reader.now.0) (g.W.Write.contents c.args.writer.now.0) held_in check_report (λ bytes is. unchecked bytes c.in_err-file.field-0.0 is) c.in_err-file.ensures.read)

pub returns-in_err-file-clause-ends : goal.returns-in_err-file-clause-ends
returns-in_err-file-clause-ends g c =
    let p = err_from_is_err_and c.from_residual.result c.from_residual.ensures.1 in
    rw (p.1, p.2) (reading_ends g.R.Read.remaining is_refusal_of_checking c.args.reader.now c.read.new.reader c.args.writer.now c.in_err-file.field-0.0 (reading_checks c.in_err-file.field-0.0 c.in_err-file.ensures.reads.listed) c.in_err-file.ensures.reads)

pub returns-clause-told : goal.returns-clause-told
returns-clause-told g c =
    check_told (λ (file : StoreForm). file.replica) c.in_ok-file.file (g.R.Read.remaining c.args.reader.now.0) (g.W.Write.contents c.args.writer.now.0) (g.W.Write.contents c.check.new.writer.0) c.args.writer.now.1 c.check.new.writer.1 c.check.result
    c.in_ok-file.ensures.read c.check.ensures.text

pub returns-clause-ends : goal.returns-clause-ends
returns-clause-ends g c =
    text_ends g.R.Read.remaining c.args.reader.now c.read.new.reader c.args.writer.now c.check.new.writer c.check.result (g.W.Write.contents c.args.writer.now.0) (g.W.Write.contents c.check.new.writer.0) (checked_text (counts_of c.in_ok-file.file.replica))
    c.in_ok-file.ensures.reads c.check.ensures.text
