use Rattle.std.proofs.Common.{◌≡◌, ◌-◌, ◌≤◌, List}
use Rattle.std.specs.Io.KnownBytes.{Appends}
use Rattle.table_model.specs.declared.names.BatchName.{BatchName}
use Rattle.catalogue_join.specs.Run.{names_from, run_length}
use Rattle.column_file.proofs.RunWriting.{name_bytes}
use Rattle.column_file.proofs.summary_writing.write_run.Given as goal

abbrev pub invariant-loop-number : goal.invariant-loop-number
invariant-loop-number g l = record {
  written : (front : List BatchName) → Appends (g.W.Write.contents l.initial.writer.0) (g.W.Write.contents l.writer.0) (name_bytes front (names_from l.run.first.origin l.run.first.number.0 (l.number - l.run.first.number.0)));
  within : l.number - l.run.first.number.0 ≤ run_length l.run;
  kept : l.writer.1 ≡ l.initial.writer.1;
}
