use Rattle.std.proofs.Common.{◌≡◌, ℕ, [], take}
use Rattle.std.specs.Io.KnownBytes.{Appends}
use Rattle.segment_core.specs.Format.{spell_all}
use Rattle.column_file.specs.SchemaBytes.{column}
use Rattle.column_file.proofs.schema_writing.write_columns.Given as goal

abbrev pub invariant-loop-shape : goal.invariant-loop-shape
invariant-loop-shape g l = record {
  written : (version : ℕ) → Appends (g.W.Write.contents l.initial.writer.0) (g.W.Write.contents l.writer.0) (spell_all (column version) [] (take l.shape-index l.columns));
  kept : l.writer.1 ≡ l.initial.writer.1;
}
