-- the words so far
use Rattle.std.proofs.Common.{◌≡◌, map, take, length}
use Rattle.std.specs.List.{range_with_len}
use Rattle.bit_interleave.specs.PackedBytes.{word_of_bytes}
use Rattle.bit_interleave.proofs.word_bytes.read_into.Given as goal

abbrev pub invariant-loop-i : goal.invariant-loop-i
invariant-loop-i g l = record {
  long : length l.words ≡ length l.initial.words;
  read : map g.U.LaneWord.number (take l.i l.words) ≡ map (word_of_bytes g.U.LaneWord.BITS l.bytes) (range_with_len 0 l.i);
}
