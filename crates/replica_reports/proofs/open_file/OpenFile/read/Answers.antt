-- The file is opened as a replica of an own origin, whose number does not matter.
use Rattle.std.proofs.Common.{arith}
use Rattle.std.proofs.lemmas.Result.{err_from_is_err_and}
use Rattle.replica_reports.proofs.open_file.OpenFile.read.Goals as goal

pub returns-in_err-store-clause-reads : goal.returns-in_err-store-clause-reads
returns-in_err-store-clause-reads g c =
    let p = err_from_is_err_and c.from_residual.result c.from_residual.ensures.1 in
    rw (p.1, p.2) (c.in_err-store.ensures.reads (omega arith))

pub returns-clause-reads : goal.returns-clause-reads
returns-clause-reads g c = c.in_ok-store.ensures.reads (omega arith)
