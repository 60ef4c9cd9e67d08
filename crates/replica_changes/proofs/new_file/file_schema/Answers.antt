-- The file was read as it is opened; then only memory may run out.
use Rattle.std.proofs.lemmas.Result.{err_from_is_err_and}
use Rattle.replica_changes.proofs.RefusedOnFile.{memory_stops}
use Rattle.replica_changes.proofs.new_file.file_schema.Goals as goal

pub returns-in_err-file-clause-reads : goal.returns-in_err-file-clause-reads
returns-in_err-file-clause-reads g c =
    let p = err_from_is_err_and c.from_residual.result c.from_residual.ensures.1 in
    rw (p.1, p.2) c.in_err-file.ensures.reads

pub returns-in_err-copy-clause-reads : goal.returns-in_err-copy-clause-reads
returns-in_err-copy-clause-reads g c =
    let p = err_from_is_err_and c.from_residual-in_err-copy.result c.from_residual-in_err-copy.ensures.1 in
    rw (p.1, p.2) (memory_stops g.R.Read.remaining c.args.reader.now c.read.new.reader c.in_ok-file.ensures.reads)

pub returns-clause-reads : goal.returns-clause-reads
returns-clause-reads g c = c.in_ok-file.ensures.reads
