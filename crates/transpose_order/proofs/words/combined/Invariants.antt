-- Each word before j is made of the two words at its place.
use Rattle.std.proofs.Common.{◌≡◌, ℕ, ◌<◌, slice_index_or, length}
use Rattle.transpose_order.proofs.words.combined.Given as goal

abbrev pub invariant-loop-j : goal.invariant-loop-j
invariant-loop-j g l =
    (length l.words ≡ 16) × ((k : ℕ) → k < l.j → g.F.Fn.post l.of (slice_index_or l.left k 0, (slice_index_or l.right k 0, tt)) (slice_index_or l.words k 0))
