-- The queries are answered over the file once it was opened; before that nothing is written.
use Rattle.std.proofs.Common.{ℕ, List, Bor, ap, map}
use Rattle.std.proofs.lemmas.Result.{err_from_is_err_and}
use Rattle.column_file.specs.Files.{opened_from}
use Rattle.replica_store.specs.Replica.{Replica}
use Rattle.replica_store.specs.Segments.{StoreForm}
use Rattle.lanes_main.specs.FileReport.{queries_report, opened_report, is_refusal_of_querying}
use Rattle.lanes_main.proofs.FileReports.{reading_refused, reading_queries, reading_ends, answering_ends}
use Rattle.lanes_main.proofs.file_queries.query_file.Goals as goal

pub returns-in_err-file-clause-told : goal.returns-in_err-file-clause-told
returns-in_err-file-clause-told g c =
    let p = err_from_is_err_and c.from_residual.result c.from_residual.ensures.1 in
    let queries : List (List ℕ) = map (λ (query : Bor (List ℕ)). query.now) c.args.queries.now in
    rw (p.1, p.2) (reading_refused {Y = Replica} (λ (file : StoreForm). file.replica) c.in_err-file.field-0.0 (g.R.Read.remaining c.args.reader.now.0) (g.W.Write.contents c.args.writer.now.0) (opened_from (record { 0 = 1 })) (queries_report queries) (λ bytes is. ap (opened_report queries) is) c.in_err-file.ensures.read)

pub returns-in_err-file-clause-ends : goal.returns-in_err-file-clause-ends
returns-in_err-file-clause-ends g c =
    let p = err_from_is_err_and c.from_residual.result c.from_residual.ensures.1 in
    rw (p.1, p.2) (reading_ends g.R.Read.remaining is_refusal_of_querying c.args.reader.now c.read.new.reader c.args.writer.now c.in_err-file.field-0.0 (reading_queries c.in_err-file.field-0.0 c.in_err-file.ensures.reads.listed) c.in_err-file.ensures.reads)

pub returns-in-Ok-clause-ends : goal.returns-in-Ok-clause-ends
returns-in-Ok-clause-ends g c =
    record { read = c.in_ok-file.ensures.reads; kept = c.in-Ok.ensures.kept }

pub returns-clause-ends : goal.returns-clause-ends
returns-clause-ends g c =
    answering_ends g.R.Read.remaining c.args.reader.now c.read.new.reader c.args.writer.now c.answer_all.new.writer c.in-Err.stopped.refusal c.in-Err.ensures.refused
    c.in_ok-file.ensures.reads c.in-Err.ensures.fault
