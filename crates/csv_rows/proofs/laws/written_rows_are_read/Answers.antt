-- A text is cut where it was joined.
use Rattle.csv_rows.proofs.Dumps.{rows_read_again}
use Rattle.csv_rows.proofs.laws.written_rows_are_read.Goals as goal

pub returns : goal.returns
returns c = rows_read_again
