use Rattle.std.proofs.Common.{◌≡◌, [], All, take, map}
use Rattle.std.specs.Io.KnownBytes.{Appends}
use Rattle.table_model.specs.Table.{Table}
use Rattle.segment_core.specs.Format.{spell_all}
use Rattle.replica_store.specs.Segments.{IsStored}
use Rattle.column_file.specs.ContainerBytes.{batch}
use Rattle.column_file.specs.Files.{canonical_as_read, AreNumbered}
use Rattle.column_file.proofs.canonical_writing.write_canonical_list.Given as goal

abbrev pub invariant-loop-index : goal.invariant-loop-index
invariant-loop-index g l = record {
  written : (table : Table) → All (IsStored table) l.entries → Appends (g.W.Write.contents l.initial.writer.0) (g.W.Write.contents l.writer.0) (spell_all (batch table) [] (take l.index (map (canonical_as_read table) l.entries)));
  kept : (table : Table) → All (IsStored table) l.entries → l.writer.1 ≡ l.initial.writer.1;
  numbered : AreNumbered (take l.index l.entries);
}
