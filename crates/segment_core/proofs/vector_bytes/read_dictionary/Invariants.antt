-- What is still to be read after the values that stand in the room gives the whole.
use Rattle.std.proofs.Common.{◌≡◌, ◌-◌, [], length, take}
use Rattle.bit_interleave.specs.Range.{AreInRange}
use Rattle.run_dictionary.specs.Dict.{IsAscending}
use Rattle.table_model.specs.declared.refusal.Refusal.TheVariants.{BadDictionary}
use Rattle.segment_core.specs.Format.{signed, checked, read_all}
use Rattle.segment_core.specs.VectorBytes.{is_above}
use Rattle.segment_core.proofs.vector_bytes.read_dictionary.Given as goal

abbrev pub invariant-loop-i : goal.invariant-loop-i
invariant-loop-i l = record {
  long : length l.room ≡ 1024;
  read : read_all (λ front. checked (signed l.lane_width) (is_above front) BadDictionary) (l.count - l.i) (take l.i l.room) l.total l.rest
      ≡ read_all (λ front. checked (signed l.lane_width) (is_above front) BadDictionary) l.count [] l.total l.bytes;
  rises : IsAscending (take l.i l.room);
  fit : AreInRange l.lane_width (take l.i l.room);
}
