-- The first bytes have their bits.
use Rattle.std.proofs.Common.{◌≡◌, ◌<◌, ◌*◌, ◌-◌, ◌^◌, ℕ, min, get_or}
use Rattle.live_columns.proofs.bits.set_front.Given as goal

abbrev pub invariant-loop-index : goal.invariant-loop-index
invariant-loop-index l = (k : ℕ) → k < l.index → get_or l.valid k 0 ≡ 2 ^ (min (l.cells - 8 * k) 8) - 1
