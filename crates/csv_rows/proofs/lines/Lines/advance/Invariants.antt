use Rattle.std.proofs.Common.{◌≡◌, ◌+◌, ◌≤◌, ◌<◌, length}
use Rattle.table_model.specs.Faults.{read_limit}
use Rattle.csv_rows.specs.Reading.{Came}
use Rattle.csv_rows.proofs.Advances.{Sofar}
use Rattle.csv_rows.proofs.lines.Lines.advance.Given as goal

abbrev pub invariant-loop-turn : goal.invariant-loop-turn
invariant-loop-turn g l = record {
  lines : Sofar l.initial.self.pending l.self.line l.self.pending (g.R.Read.remaining l.initial.reader.0) (g.R.Read.remaining l.reader.0);
  part : length l.self.line ≤ l.self.spare;
  number : l.self.number ≡ l.initial.self.number;
  came : Came l.initial.self.given l.self.given (g.R.Read.remaining l.initial.reader.0) (g.R.Read.remaining l.reader.0);
  turns : l.initial.self.given + l._turn ≤ l.self.given;
  limit : 0 < l._turn → l.self.given ≤ read_limit;
  within : l.initial.self.given ≤ read_limit → l.self.given ≤ read_limit;
  fewer : l.self.number ≤ l.self.given;
  kept : l.reader.1 ≡ l.initial.reader.1;
}
