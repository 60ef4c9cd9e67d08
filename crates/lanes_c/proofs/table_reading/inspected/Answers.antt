-- The file of the store is opened, and that is reported.
use Rattle.std.proofs.Common.{ap, sym, ◌∙◌}
use Rattle.std.proofs.lemmas.Result.{err_from_is_err_and}
use Rattle.replica_reports.specs.Held.{held_in}
use Rattle.lanes_c.specs.Rooms.{given_by}
use Rattle.lanes_c.proofs.TableReadings.{inspected_given, file_lacks, file_unread}
use Rattle.lanes_c.proofs.table_reading.inspected.Goals as goal

pub returns-in_err-bytes : goal.returns-in_err-bytes
returns-in_err-bytes c =
    let p = err_from_is_err_and c.from_residual.result c.from_residual.ensures.1 in
    rw (p.1, p.2) (file_lacks c.in_err-bytes.field-0.0 c.args.form c.args.store.now.replica c.in_err-bytes.ensures.file)

pub returns-in_err-open : goal.returns-in_err-open
returns-in_err-open c =
    let p = err_from_is_err_and c.from_residual-in_err-open.result c.from_residual-in_err-open.ensures.1 in
    rw (p.1, p.2) (file_unread c.in_err-open.field-0.0 c.args.form c.args.store.now.replica _ (ap held_in c.as_slice.ensures.value ∙ c.in_ok-bytes.ensures.opens) c.in_err-open.ensures.fault)

pub returns : goal.returns
returns c =
    inspected_given (given_by c.reported.result) c.args.form c.in_ok-open.open c.args.store.now.replica (sym (ap held_in c.as_slice.ensures.value ∙ c.in_ok-bytes.ensures.opens) ∙ c.in_ok-open.ensures.held) c.store.ensures.canonical c.reported.ensures
