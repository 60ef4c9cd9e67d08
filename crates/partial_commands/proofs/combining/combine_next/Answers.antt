-- The partial answer that is read is combined with those before it, or is the first.
use Rattle.std.proofs.lemmas.Result.{err_from_is_err_and}
use Rattle.partial_commands.proofs.combining.combine_next.Goals as goal

pub returns-in_err-next-clause-refused : goal.returns-in_err-next-clause-refused
returns-in_err-next-clause-refused g c =
    let p = err_from_is_err_and c.from_residual.result c.from_residual.ensures.1 in
    rw (p.1, p.2) c.in_err-next.ensures.read

pub returns-in_err-next-clause-fault : goal.returns-in_err-next-clause-fault
returns-in_err-next-clause-fault g c =
    let p = err_from_is_err_and c.from_residual.result c.from_residual.ensures.1 in
    rw (p.1, p.2) c.in_err-next.ensures.reads.counts

pub returns-in_err-both-clause-refused : goal.returns-in_err-both-clause-refused
returns-in_err-both-clause-refused g c =
    let p = err_from_is_err_and c.from_residual-in_err-both.result c.from_residual-in_err-both.ensures.1 in
    rw (p.1, p.2) (c.in_ok-next.next, c.in_ok-next.ensures.read, c.in_err-both.ensures.refused)
