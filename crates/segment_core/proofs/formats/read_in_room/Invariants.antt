-- What is still to be read after the values that stand in the room gives the whole.
use Rattle.std.proofs.Common.{◌≡◌, ◌-◌, [], length, take}
use Rattle.bit_interleave.specs.Range.{AreInRange}
use Rattle.segment_core.specs.Format.{signed, read_all}
use Rattle.segment_core.proofs.formats.read_in_room.Given as goal

abbrev pub invariant-loop-i : goal.invariant-loop-i
invariant-loop-i g l = record {
  long : length l.room ≡ g.row.N;
  read : read_all (λ _. signed l.lane_width) (l.count - l.i) (take l.i l.room) l.total l.rest ≡ read_all (λ _. signed l.lane_width) l.count [] l.total l.bytes;
  fit : AreInRange l.lane_width (take l.i l.room);
}
