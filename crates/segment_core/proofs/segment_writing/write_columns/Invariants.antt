use Rattle.std.proofs.Common.{◌≡◌, ℕ, [], length, take, slice_index_or}
use Rattle.std.specs.Io.KnownBytes.{Appends}
use Rattle.segment_core.specs.Format.{spell_all}
use Rattle.segment_core.specs.Segment.{widths_in, IsSegment}
use Rattle.segment_core.specs.SegmentBytes.{column}
use Rattle.segment_core.proofs.segment_writing.write_columns.Given as goal

abbrev pub invariant-loop-vectors : goal.invariant-loop-vectors
invariant-loop-vectors g l = record {
  written : (rows : ℕ) → IsSegment rows l.forms → Appends (g.W.Write.contents l.initial.writer.0) (g.W.Write.contents l.writer.0) (spell_all (λ front. column (slice_index_or (widths_in l.forms) (length front) 0) rows) [] (take l.vectors-index l.forms));
  kept : (rows : ℕ) → IsSegment rows l.forms → l.writer.1 ≡ l.initial.writer.1;
}
