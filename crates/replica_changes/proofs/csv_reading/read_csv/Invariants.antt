-- Full batches were loaded, and the rest of the text is to come. Each of them took lines.
use Rattle.std.proofs.Common.{◌≡◌, ◌≤◌}
use Rattle.table_model.specs.Faults.{read_limit}
use Rattle.csv_rows.specs.Reading.{Came}
use Rattle.replica_changes.proofs.CsvLoading.{LoadedSoFar}
use Rattle.replica_changes.proofs.csv_reading.read_csv.Given as goal

abbrev pub invariant-loop-round : goal.invariant-loop-round
invariant-loop-round g l = record {
  so : LoadedSoFar l.initial.csv l.csv (g.R.Read.remaining l.initial.reader.0) (g.R.Read.remaining l.reader.0) l.initial.load l.load;
  table : l.csv.table ≡ l.initial.csv.table;
  further : l._round ≤ l.csv.number;
  bound : l._round ≤ read_limit;
  came : Came l.initial.csv.given l.csv.given (g.R.Read.remaining l.initial.reader.0) (g.R.Read.remaining l.reader.0);
  kept : l.reader.1 ≡ l.initial.reader.1;
}
