use Rattle.std.proofs.Common.{◌≡◌, [], take}
use Rattle.std.specs.Io.KnownBytes.{Appends}
use Rattle.catalogue_join.specs.Run.{names_listed}
use Rattle.column_file.proofs.RunWriting.{name_bytes}
use Rattle.column_file.proofs.summary_writing.write_name_list.Given as goal

abbrev pub invariant-loop-run : goal.invariant-loop-run
invariant-loop-run g l = record {
  written : Appends (g.W.Write.contents l.initial.writer.0) (g.W.Write.contents l.writer.0) (name_bytes [] (names_listed (take l.run-index l.run-items)));
  kept : l.writer.1 ≡ l.initial.writer.1;
}
