use Rattle.std.proofs.Common.{◌≡◌, [], take}
use Rattle.std.specs.Io.KnownBytes.{Appends}
use Rattle.segment_core.specs.Format.{signed, spell_all}
use Rattle.segment_core.proofs.writing.write_values.Given as goal

abbrev pub invariant-loop-i : goal.invariant-loop-i
invariant-loop-i g l = record {
  written : Appends (g.W.Write.contents l.initial.writer.0) (g.W.Write.contents l.writer.0) (spell_all (λ _. signed l.lane_width) [] (take l.i l.values.values));
  kept : l.writer.1 ≡ l.initial.writer.1;
}
