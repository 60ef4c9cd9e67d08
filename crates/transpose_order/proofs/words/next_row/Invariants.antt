-- no row before word j is true
use Rattle.std.proofs.Common.{◌≡◌, ℕ, ◌*◌, ◌<◌, ◌≤◌, false}
use Rattle.transpose_order.specs.Mask.{truth_at}
use Rattle.transpose_order.proofs.words.next_row.Given as goal

abbrev pub invariant-loop-j : goal.invariant-loop-j
invariant-loop-j l = (n : ℕ) → l.from ≤ n → n < 64 * l.j → truth_at l.words n ≡ false
