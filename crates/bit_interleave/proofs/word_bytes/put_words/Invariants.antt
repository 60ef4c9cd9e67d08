-- the bytes of the words before word i are written
use Rattle.std.proofs.Common.{◌≡◌, ℕ, ◌+◌, ◌*◌, ◌/◌, ◌<◌, length, slice_index, map}
use Rattle.transpose_order.specs.Bytes.{byte_of}
use Rattle.bit_interleave.specs.PackedBytes.{bit_of_words}
use Rattle.bit_interleave.proofs.word_bytes.put_words.Given as goal

abbrev pub invariant-loop-i : goal.invariant-loop-i
invariant-loop-i g l = record {
  long : length l.bytes ≡ 128;
  written : (k : ℕ) → k < l.bits / 8 * l.i → slice_index l.bytes k ≡ byte_of (λ b. bit_of_words l.bits (map g.U.LaneWord.number l.words) (l.first * l.bits + b)) k;
}
