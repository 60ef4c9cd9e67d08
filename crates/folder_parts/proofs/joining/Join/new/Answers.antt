-- Which refusals the join of one part has.
use Rattle.std.proofs.lemmas.Result.{err_from_is_err_and}
use Rattle.folder_parts.proofs.PartRefusals.{lack_listed}
use Rattle.folder_parts.proofs.joining.Join.new.Goals as goal

pub returns-in_err-joined-clause-listed : goal.returns-in_err-joined-clause-listed
returns-in_err-joined-clause-listed c =
    let p = err_from_is_err_and c.from_residual-in_err-joined.result c.from_residual-in_err-joined.ensures.1 in
    rw (p.1, p.2) (lack_listed c.in_ok-store.store c.in_err-joined.field-0.0 c.in_err-joined.ensures)
