use Rattle.std.proofs.Common.{◌≡◌, ◌*◌, take}
use Rattle.std.specs.Io.KnownBytes.{Appends}
use Rattle.bit_interleave.specs.PackedBytes.{bytes_of}
use Rattle.segment_core.proofs.writing.write_words.Given as goal

abbrev pub invariant-loop-block : goal.invariant-loop-block
invariant-loop-block g l = record {
  written : Appends (g.W.Write.contents l.initial.writer.0) (g.W.Write.contents l.writer.0) (take (128 * l.block) (bytes_of l.packed));
  kept : l.writer.1 ≡ l.initial.writer.1;
}
