-- the bytes of the words before word j are written
use Rattle.std.proofs.Common.{◌≡◌, ℕ, ◌*◌, ◌/◌, ◌%◌, ◌<◌, length, slice_index}
use Rattle.std.specs.Int.{bit_at}
use Rattle.transpose_order.specs.Bytes.{byte_of}
use Rattle.transpose_order.proofs.bytes.bytes_of_words.Given as goal

abbrev pub invariant-loop-j : goal.invariant-loop-j
invariant-loop-j l = record {
  long : length l.bytes ≡ 128;
  written : (k : ℕ) → k < 8 * l.j → slice_index l.bytes k ≡ byte_of (λ b. bit_at (slice_index l.words (b / 64)) (b % 64)) k;
}
