-- the number of the bytes so far
use Rattle.std.proofs.Common.{◌≡◌, ◌+◌, ◌*◌}
use Rattle.transpose_order.specs.Mask.{number_of_bits}
use Rattle.transpose_order.specs.Bytes.{bit_of_bytes}
use Rattle.transpose_order.proofs.bytes.number_at.Given as goal

abbrev pub invariant-loop-i : goal.invariant-loop-i
invariant-loop-i l = l.number ≡ number_of_bits (8 * l.i) (λ p. bit_of_bytes l.bytes (8 * l.at + p))
