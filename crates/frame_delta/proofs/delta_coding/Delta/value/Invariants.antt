-- The sum so far wraps to the base and the deltas of the steps so far.
use Rattle.std.proofs.Common.{◌≡◌, pos, ◌+ℤ◌}
use Rattle.std.specs.Int.{int_wrap}
use Rattle.bit_interleave.specs.Arithmetic.{integer_width}
use Rattle.bit_interleave.specs.Packing.{packed_value}
use Rattle.bit_interleave.specs.PackedWords.{packed_width}
use Rattle.bit_interleave.specs.Range.{value_at}
use Rattle.frame_delta.specs.Delta.{sum_to}
use Rattle.frame_delta.proofs.delta_coding.Delta.value.Given as goal

abbrev pub invariant-loop-step : goal.invariant-loop-step
invariant-loop-step l = int_wrap (integer_width l.lane_width) (pos l.sum) ≡ int_wrap (integer_width l.lane_width) (value_at l.self-inside.bases.values l.lane +ℤ sum_to l.step (λ s. l.self-inside.least +ℤ pos (packed_value l.lane_width (packed_width l.self-inside.words) l.self-inside.words.numbers l.lane s)))
