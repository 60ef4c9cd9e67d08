use Rattle.std.proofs.Common.{◌≡◌, [], All, take, map}
use Rattle.std.specs.Io.KnownBytes.{Appends}
use Rattle.table_model.specs.Table.{Table}
use Rattle.segment_core.specs.Format.{spell_all}
use Rattle.replica_store.specs.Segments.{IsStored}
use Rattle.column_file.specs.ContainerBytes.{entry_of, batch}
use Rattle.column_file.specs.Files.{HasBatchBytes}
use Rattle.column_file.proofs.container_writing.write_batch_list.Given as goal

abbrev pub invariant-loop-index : goal.invariant-loop-index
invariant-loop-index g l = record {
  written : (table : Table) → All (IsStored table) l.entries → Appends (g.W.Write.contents l.initial.writer.0) (g.W.Write.contents l.writer.0) (spell_all (batch table) [] (take l.index (map entry_of l.entries)));
  kept : (table : Table) → All (IsStored table) l.entries → l.writer.1 ≡ l.initial.writer.1;
  again : (table : Table) → All (IsStored table) l.entries → All (HasBatchBytes table) (take l.index l.entries);
}
