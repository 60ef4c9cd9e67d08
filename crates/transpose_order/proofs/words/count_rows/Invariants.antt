-- the words so far are counted
use Rattle.std.proofs.Common.{◌≡◌, ◌*◌, ◌≤◌}
use Rattle.transpose_order.specs.Mask.{truth_at, count_below}
use Rattle.transpose_order.proofs.words.count_rows.Given as goal

abbrev pub invariant-loop-word : goal.invariant-loop-word
invariant-loop-word l = (l.count ≡ count_below (truth_at l.fn.words) (64 * l.word-index)) × (l.count ≤ 64 * l.word-index)
