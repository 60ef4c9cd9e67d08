use Rattle.std.proofs.Common.{◌≡◌, [], take, map}
use Rattle.std.specs.Io.KnownBytes.{Appends}
use Rattle.segment_core.specs.Format.{spell_all}
use Rattle.column_file.specs.ContainerBytes.{deleted_of, range}
use Rattle.column_file.proofs.container_writing.write_range_list.Given as goal

abbrev pub invariant-loop-index : goal.invariant-loop-index
invariant-loop-index g l = record {
  written : Appends (g.W.Write.contents l.initial.writer.0) (g.W.Write.contents l.writer.0) (spell_all range [] (take l.index (map deleted_of l.deleted)));
  kept : l.writer.1 ≡ l.initial.writer.1;
}
