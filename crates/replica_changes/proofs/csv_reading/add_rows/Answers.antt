-- Rows that a load doesn't take leave it as it was.
use Rattle.std.proofs.Common.{◌≤◌, length, arith}
use Rattle.std.proofs.lemmas.Bool.Decides.{nat_tests}
use Rattle.replica_changes.proofs.StoppedLoads.{not_added}
use Rattle.replica_changes.proofs.csv_reading.add_rows.Goals as goal

pub returns-in-Err-clause-refused : goal.returns-in-Err-clause-refused
returns-in-Err-clause-refused c =
    let some : 1 ≤ length c.args.rows.now = grind (arith, nat_tests, c.is_empty.ensures, c.if-is_empty.false) in
    not_added c.args.load.now c.args.rows.now c.in-Err.refusal some c.in-Err.ensures.1

pub returns-in-Err-clause-kept : goal.returns-in-Err-clause-kept
returns-in-Err-clause-kept c = c.in-Err.ensures.0
