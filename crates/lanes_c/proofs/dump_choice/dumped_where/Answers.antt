-- The file opens to what is dumped, or it is refused.
use Rattle.std.proofs.Common.{inl}
use Rattle.std.proofs.lemmas.Result.{err_from_is_err_and}
use Rattle.lanes_c.specs.Rooms.{given_by}
use Rattle.lanes_c.proofs.ChosenDumps.{file_dumped}
use Rattle.lanes_c.proofs.dump_choice.dumped_where.Goals as goal

pub returns-in_err-open : goal.returns-in_err-open
returns-in_err-open c =
    let p = err_from_is_err_and c.from_residual.result c.from_residual.ensures.1 in
    rw (p.1, p.2) (inl c.in_err-open.ensures.fault)

pub returns : goal.returns
returns c = file_dumped (given_by c.chosen_rows.result) c.args.has_names c.args.names.now c.args.condition.now c.args.file.now c.in_ok-open.open.replica c.in_ok-open.ensures.held c.chosen_rows.ensures
