use Rattle.std.proofs.Common.{◌≡◌, ℕ, [], length, take}
use Rattle.std.specs.Io.KnownBytes.{Appends}
use Rattle.segment_core.specs.Format.{spell_all}
use Rattle.segment_core.specs.Segment.{rows_in, width_in, IsColumn}
use Rattle.segment_core.specs.VectorBytes.{vector}
use Rattle.segment_core.proofs.segment_writing.write_column.Given as goal

abbrev pub invariant-loop-vector : goal.invariant-loop-vector
invariant-loop-vector g l = record {
  written : (rows : ℕ) → IsColumn rows l.vectors → Appends (g.W.Write.contents l.initial.writer.0) (g.W.Write.contents l.writer.0) (spell_all (λ front. vector (width_in l.vectors) (rows_in rows (length front))) [] (take l.vector-index l.vectors));
  kept : l.writer.1 ≡ l.initial.writer.1;
}
