-- the bits so far
use Rattle.std.proofs.Common.{◌≡◌, ◌==◌, ◌&&◌, ℕ, ◌+◌, ◌<◌, nat_lt, int_lt}
use Rattle.std.specs.Int.{bit_at}
use Rattle.bit_interleave.specs.Range.{value_at}
use Rattle.fused_kernels.proofs.columns.less_in_word.Given as goal

abbrev pub invariant-loop-p : goal.invariant-loop-p
invariant-loop-p l =
    (p : ℕ) → p < 64 → (bit_at l.word p == 1) ≡ (nat_lt p l.p && int_lt (value_at l.left (l.first + p)) (value_at l.right (l.first + p)))
