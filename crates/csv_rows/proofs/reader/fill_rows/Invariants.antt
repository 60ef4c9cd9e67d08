use Rattle.std.proofs.Common.{◌≡◌, ◌+◌, ◌≤◌, ◌<◌, length}
use Rattle.table_model.specs.Faults.{read_limit}
use Rattle.table_model.specs.Table.{AreRows}
use Rattle.csv_rows.specs.Reading.{Came}
use Rattle.csv_rows.specs.RowReading.{ReadsOn, TakesLines}
use Rattle.csv_rows.proofs.reader.fill_rows.Given as goal

abbrev pub invariant-loop-turn : goal.invariant-loop-turn
invariant-loop-turn g l = record {
  rows : ReadsOn l.dialect l.columns l.order l.initial.lines l.lines l.initial.rows l.rows (g.R.Read.remaining l.initial.reader.0) (g.R.Read.remaining l.reader.0);
  taken : TakesLines l.dialect l.columns l.order l.initial.lines l.lines l.initial.rows l.rows (g.R.Read.remaining l.initial.reader.0) (g.R.Read.remaining l.reader.0);
  fits : AreRows l.columns l.initial.rows → AreRows l.columns l.rows;
  few : length l.rows < 65536;
  further : l.initial.lines.number + length l.rows ≤ l.lines.number + length l.initial.rows;
  turns : l.initial.lines.number + l._turn ≤ l.lines.number;
  bound : 0 < l._turn → l.lines.number ≤ read_limit;
  within : l.lines.given ≤ read_limit;
  came : Came l.initial.lines.given l.lines.given (g.R.Read.remaining l.initial.reader.0) (g.R.Read.remaining l.reader.0);
  kept : l.reader.1 ≡ l.initial.reader.1;
}
