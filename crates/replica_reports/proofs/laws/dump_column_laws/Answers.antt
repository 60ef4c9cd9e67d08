-- The laws are those of the rows that are chosen, in the columns that are.
use Rattle.replica_reports.proofs.DumpChoices.{dump_column_laws_hold}
use Rattle.replica_reports.proofs.laws.dump_column_laws.Goals as goal

pub returns : goal.returns
returns c = dump_column_laws_hold
