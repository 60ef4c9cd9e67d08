-- the words before word j are read
use Rattle.std.proofs.Common.{◌≡◌, ℕ, ◌+◌, ◌*◌, ◌<◌, length, slice_index}
use Rattle.std.specs.Int.{bit_at}
use Rattle.transpose_order.specs.Bytes.{bit_of_bytes}
use Rattle.transpose_order.proofs.bytes.words_of_bytes.Given as goal

abbrev pub invariant-loop-j : goal.invariant-loop-j
invariant-loop-j l = record {
  long : length l.words ≡ 16;
  read : (k p : ℕ) → k < l.j → p < 64 → bit_at (slice_index l.words k) p ≡ bit_of_bytes l.bytes (64 * k + p);
}
