use Rattle.std.proofs.Common.{◌≡◌, ℕ, ◌*◌, ◌/◌, ◌%◌, ◌<◌, map, slice_index}
use Rattle.bit_interleave.specs.Packing.{packed_word}
use Rattle.bit_interleave.proofs.packing.pack_constant.Given as goal

abbrev pub invariant-loop-word : goal.invariant-loop-word
invariant-loop-word g l =
    (i : ℕ) → i < l.word * (1024 / g.U.LaneWord.BITS) → slice_index (map g.U.LaneWord.number l.words) i ≡ packed_word g.U.LaneWord.BITS g.row.W (map g.V.LaneWord.number l.values) (i % (1024 / g.U.LaneWord.BITS)) (i / (1024 / g.U.LaneWord.BITS))
