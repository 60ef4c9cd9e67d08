-- the bytes before i are written, the others are as they were
use Rattle.std.proofs.Common.{◌≡◌, ℕ, ◌+◌, ◌<◌, ◌≤◌, ◌⊎◌, slice_index}
use Rattle.std.specs.Int.{bit_at}
use Rattle.transpose_order.specs.Bytes.{byte_of}
use Rattle.transpose_order.proofs.bytes.put_number.Given as goal

abbrev pub invariant-loop-i : goal.invariant-loop-i
invariant-loop-i l = record {
  written : (k : ℕ) → k < l.i → slice_index l.bytes (l.at + k) ≡ byte_of (bit_at l.number) k;
  others : (k : ℕ) → (k < l.at) ⊎ (l.at + l.i ≤ k) → slice_index l.bytes k ≡ slice_index l.fn.bytes k;
}
