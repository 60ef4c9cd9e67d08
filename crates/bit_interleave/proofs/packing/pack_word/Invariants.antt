use Rattle.std.proofs.Common.{◌≡◌, ℕ, ◌+◌, ◌*◌, ◌<◌, map, slice_index}
use Rattle.bit_interleave.specs.Packing.{packed_word}
use Rattle.bit_interleave.proofs.packing.pack_word.Given as goal

abbrev pub invariant-loop-lane : goal.invariant-loop-lane
invariant-loop-lane g l = record {
  written : (k : ℕ) → k < l.lane → slice_index (map g.U.LaneWord.number l.words) (l.word * l.lanes + k) ≡ packed_word l.bits l.width (map g.V.LaneWord.number l.values) k l.word;
  before : (i : ℕ) → i < l.word * l.lanes → slice_index (map g.U.LaneWord.number l.words) i ≡ slice_index (map g.U.LaneWord.number l.initial.words) i;
}
