use Rattle.std.proofs.Common.{◌≡◌, ◌≤◌, ◌<◌, length}
use Rattle.table_model.specs.Faults.{read_limit}
use Rattle.csv_rows.specs.Reading.{Came}
use Rattle.csv_rows.proofs.Advances.{Head}
use Rattle.csv_rows.proofs.lines.Lines.read_head.Given as goal

abbrev pub invariant-loop-turn : goal.invariant-loop-turn
invariant-loop-turn g l = record {
  text : Head l.initial.self.pending l.self.pending (g.R.Read.remaining l.initial.reader.0) (g.R.Read.remaining l.reader.0);
  at : l.self.at ≡ 0;
  turns : l._turn ≤ length l.self.pending;
  few : length l.self.pending < 3;
  number : l.self.number ≡ l.initial.self.number;
  came : Came l.initial.self.given l.self.given (g.R.Read.remaining l.initial.reader.0) (g.R.Read.remaining l.reader.0);
  within : l.initial.self.given ≤ read_limit → l.self.given ≤ read_limit;
  kept : l.reader.1 ≡ l.initial.reader.1;
}
