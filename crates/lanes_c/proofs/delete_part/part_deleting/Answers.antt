-- A delete that is refused has no part.
use Rattle.std.proofs.lemmas.Result.{err_from_is_err_and}
use Rattle.lanes_c.proofs.DeleteParts.{delete_refused}
use Rattle.lanes_c.proofs.delete_part.part_deleting.Goals as goal

pub returns-in_err-answer : goal.returns-in_err-answer
returns-in_err-answer c =
    let p = err_from_is_err_and c.from_residual.result c.from_residual.ensures.1 in
    rw (p.1, p.2) (delete_refused c.args.condition.now c.args.store.now.replica c.in_err-answer.field-0.0 _ _ c.in_err-answer.ensures.puts)
