-- The values so far fill the low bits, and the others are 0.
use Rattle.std.proofs.Common.{◌≡◌, ℕ, ◌+◌, ◌-◌, ◌*◌, ◌<◌, ◌≤◌, map}
use Rattle.std.specs.Int.{bit_at}
use Rattle.bit_interleave.specs.Packing.{value_bit}
use Rattle.bit_interleave.proofs.packing.word_of.Given as goal

abbrev pub invariant-loop-step : goal.invariant-loop-step
invariant-loop-step g l = record {
  low : (c : ℕ) → c < l.step * l.width - l.start → c < 64 → bit_at l.bits c ≡ value_bit l.lane_width l.width (map g.V.LaneWord.number l.values) l.lane (l.start + c);
  high : (c : ℕ) → l.step * l.width - l.start ≤ c → bit_at l.bits c ≡ 0;
}
